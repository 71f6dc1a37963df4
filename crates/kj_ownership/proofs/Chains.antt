-- A Chain whose step gave a promise.
use Rattle.std.proofs.Common.{suc, ◌≡◌, inl, inr, ℕ, ◌+◌, ◌<◌, ◌≤◌, List, [], ◌∷◌, length, Bool, true, false, Option, None, Some, arith, refl, sym, ap, ◌∙◌, subst, ◌||◌, ◌==◌}
use Rattle.std.specs.Prelude.{nat_eq, nat_lt, is_some, option_to_list}
use Rattle.std.proofs.lemmas.Bool.{false≢true, or_parts}
use Rattle.std.proofs.lemmas.Bool.Decides.{nat_tests}
use Rattle.kj_base.specs.Queue.{Way}
use Rattle.kj_model.specs.Nodes.{Entry, Form, Chain, Race, Join, form_at, parts_found, is_in, holds}
use Rattle.kj_model.specs.World.{World, State, Held, depth_of}
use Rattle.kj_model.specs.Changes.{silent, arm_listener}
use Rattle.kj_model.specs.Listening.{listened, listened_if, listener, listened_way, ready, is_last}
use Rattle.kj_model.specs.Free.{Guard, Holding, usual}
use Rattle.kj_model.specs.Value.{freed, Took}
use Rattle.kj_model.specs.Fire.{replaced, chain_ended}
use Rattle.kj_model.specs.Trees.{none_if}
use Rattle.kj_model.specs.Falling.{some_staying, falling, is_branch_of, without_all}
use Rattle.kj_ownership.specs.Owners.{is_live, owns, is_hub_form}
use Rattle.kj_model.specs.Framed.{times}
use Rattle.kj_ownership.specs.Standing.{Climbs, Standing, Owned}
use Rattle.kj_model.proofs.Spared.{same_number}
use Rattle.kj_model.proofs.Members.{in_either, in_right, in_one, in_self, in_none}
use Rattle.kj_model.proofs.Once.{both_ways, false_by}
use Rattle.kj_model.proofs.Falling.{node_frees}
use Rattle.kj_ownership.proofs.Flat.{Open, Comes, node_goes, few_live}
use Rattle.kj_ownership.proofs.Stays.{in_times, places_one, hub_unowned, loose_unowned, parts_after, climbs_stay}
use Rattle.kj_ownership.proofs.Kept.{standing_frees, gone_standing}
use Rattle.kj_ownership.proofs.Climb.{path_stays, root_goes, climb_holds, self_holds, holds_any, climb_apart, climb_live}
use Rattle.kj_model.proofs.Counts.{filter_all}
use Rattle.kj_ownership.proofs.Commands.{Tended, tended_open, owned_comes, fuel_for, loose_hub, unnamed_hub, same_form}
use Rattle.kj_ownership.proofs.Frames.{framed_tended}
use Rattle.kj_ownership.proofs.Changed.{listened_standing}
use Rattle.kj_ownership.proofs.Replaced.{IsTreePlace, CanReplace, is_fixed, fixed_roots, replaced_standing, form_renamed, live_renamed, some_renamed}

-- arming leaves the nodes
arm_nodes : (way : Way) (o : Option ℕ) (w : World) → (arm_listener way o w).nodes ≡ w.nodes
arm_nodes way None w = refl
arm_nodes way (Some e) w = refl

if_nodes : (b : Bool) (n : ℕ) (w : World) → (listened_if b n w).nodes ≡ w.nodes
if_nodes true n w = arm_nodes (listened_way (is_last (depth_of w) w.nodes n)) (listener n w) w
if_nodes false n w = refl

listened_nodes : (n : ℕ) (w : World) → (listened n w).nodes ≡ w.nodes
listened_nodes n w = if_nodes (ready (depth_of w) w.nodes n) n w

-- a path with one more node, which nobody owns and which is no hub
open_one : (guard : Guard) (w : World) (path : List ℕ) (r : ℕ) → Open guard w [] [] path → is_in r path ≡ false → is_live r w.nodes ≡ true → ((q : ℕ) → owns q r w.nodes ≡ false) → is_hub_form (form_at r w.nodes) ≡ false → Open guard w [] [] (r ∷ path)
open_one guard w path r o off live top plain = record {
  up = λ x q i own. elim (in_either x (r ∷ []) path i) [
    | inl a ↦ absurd (both_ways (owns q r w.nodes) (subst (λ (y : ℕ). owns q y w.nodes ≡ true) (sym (in_one x r a)) own) (top q))
    | inr b ↦ in_right q (r ∷ []) path (o.up x q b own)
  ];
  lost = λ h i u. elim (in_either h (r ∷ []) path i) [
    | inl a ↦ absurd (both_ways (is_hub_form (form_at r w.nodes)) (subst (λ (y : ℕ). is_hub_form (form_at y w.nodes) ≡ true) (sym (in_one h r a)) (unnamed_hub (form_at h w.nodes) u)) plain)
    | inr b ↦ elim (o.lost h b u) [ inl f ↦ inl (λ m at. on_more (r == m) (is_in m path) (f m at)) | inr g ↦ inr (λ gone d. g gone (λ m j. (or_parts (r == m) (is_in m path) (d m j)).1)) ]
  ];
  way_in = λ m i. absurd (in_none m i);
  apart = (off, o.apart);
  live = λ m i. elim (in_either m (r ∷ []) path i) [ inl a ↦ subst (λ (y : ℕ). is_live y w.nodes ≡ true) (in_one m r a) live | inr b ↦ o.live m b ];
  off = λ m i. absurd (in_none m i);
}
  where
    on_more : (a b : Bool) → (b || false) ≡ true → ((a || b) || false) ≡ true
    on_more true b h = refl
    on_more false b h = h

-- a place for trees stays one over a free
fixed_before : (c : Bool) (out : ℕ → Bool) (n : ℕ) (nodes : List Entry) (o : Option Form) → is_fixed (none_if c (some_staying out n nodes o)) ≡ true → is_fixed o ≡ true
fixed_before true out n nodes o h = absurd (false≢true h)
fixed_before false out n nodes None h = h
fixed_before false out n nodes (Some (Chain l)) h = refl
fixed_before false out n nodes (Some (Race a b w)) h = refl
fixed_before false out n nodes (Some (Join a b)) h = refl
fixed_before false out n nodes (Some _) h = absurd (false≢true h)

fewer_none : (n : ℕ) (c : Bool) (o : Option Form) → times n (parts_found o) ≡ 0 → times n (parts_found (none_if c o)) ≡ 0
fewer_none n true o h = refl
fewer_none n false o h = h

place_stays : (n t : ℕ) (loose out : List ℕ) (s : State) → Standing loose out [] s → IsTreePlace n s.world → IsTreePlace n (freed t s).world
place_stays n t loose out s st p =
    let ns = falling (usual s.world) s.world (depth_of s.world) [] [] t in
    let f = node_frees (usual s.world) (depth_of s.world) t s in
    record {
      forms = λ q h. ap (times n) (parts_after ns s (freed t s) q f) ∙ fewer_none n (is_in q ns) (form_at q s.world.nodes) (p.forms q (fixed_before (is_in q ns) (λ b. is_in b ns) q s.world.nodes (form_at q s.world.nodes) (sym (ap is_fixed (f.forms q)) ∙ h)));
      helds = f.frame.held st.names (λ (h : Held). times n (fixed_roots h)) (λ ws. refl) ∙ p.helds;
      left_over = ap (times n) f.frame.same.left_over ∙ p.left_over;
      detached = ap (times n) f.frame.same.detached ∙ p.detached;
    }

-- what is freed under a Chain, and the paths that stay
record LinkFreed (n link root : ℕ) (ys : List ℕ) (s : State) : Type 0 where
  path : List ℕ
  opens : Open (Holding (option_to_list s.world.firing)) s.world [] [] path
  comes : is_live link s.world.nodes ≡ true → Comes (Holding (option_to_list s.world.firing)) s.world [] path link
  on : is_in n path ≡ true

live_root_path : (n link root : ℕ) (s : State) (td : Tended (option_to_list s.world.firing) s n) → Standing (root ∷ []) [] [] s → owns n link s.world.nodes ≡ true → is_live root s.world.nodes ≡ true → is_in root (n ∷ td.above) ≡ false → LinkFreed n link root td.above s
live_root_path n link root s td st own root_live off =
    let w = s.world in
    let gs = option_to_list w.firing in
    let ys = td.above in
    let top = λ (q : ℕ). loose_unowned (root ∷ []) w root q st.placed root_live (in_self root []) in
    let plain : is_hub_form (form_at root w.nodes) ≡ false = false_by (is_hub_form (form_at root w.nodes)) (λ h. loose_hub (root ∷ []) [] [] s root st root_live (in_self root []) h) in
    record {
      path = root ∷ n ∷ ys;
      opens = open_one (Holding gs) w (n ∷ ys) root (tended_open (root ∷ []) [] [] gs s n st td) off root_live top plain;
      comes = λ link_live. (let c = owned_comes (Holding gs) (root ∷ []) [] [] s n link ys st td.live own td.climbs link_live in record {
        off = not_root root link (is_in link (n ∷ ys)) (false_by (root == link) (λ e. both_ways (owns n link w.nodes) own (subst (λ (y : ℕ). owns n y w.nodes ≡ false) (sym (same_number root link e)) (top n)))) c.off;
        up = λ q o. in_right q (root ∷ []) (n ∷ ys) (c.up q o);
        lost = λ u. absurd (both_ways (owns n link w.nodes) own (hub_unowned (root ∷ []) w link n st.placed (unnamed_hub (form_at link w.nodes) u)));
      });
      on = in_right n (root ∷ []) (n ∷ ys) (in_self n ys);
    }
  where
    not_root : (root link : ℕ) (b : Bool) → (root == link) ≡ false → b ≡ false → ((root == link) || b) ≡ false
    not_root root link b e h = ap (λ c. c || b) e ∙ h

dead_root_path : (n link root : ℕ) (s : State) (td : Tended (option_to_list s.world.firing) s n) → Standing (root ∷ []) [] [] s → owns n link s.world.nodes ≡ true → LinkFreed n link root td.above s
dead_root_path n link root s td st own = record {
  path = n ∷ td.above;
  opens = tended_open (root ∷ []) [] [] (option_to_list s.world.firing) s n st td;
  comes = owned_comes (Holding (option_to_list s.world.firing)) (root ∷ []) [] [] s n link td.above st td.live own td.climbs;
  on = in_self n td.above;
}

link_path : (b : Bool) (n link root : ℕ) (s : State) (td : Tended (option_to_list s.world.firing) s n) → is_live root s.world.nodes ≡ b → Standing (root ∷ []) [] [] s → owns n link s.world.nodes ≡ true → is_in root (n ∷ td.above) ≡ false → LinkFreed n link root td.above s
link_path true n link root s td live st own off = live_root_path n link root s td st own live off
link_path false n link root s td dead st own off = dead_root_path n link root s td st own

-- a root that stands nowhere has a number below the next
loose_below : (root : ℕ) (loose : List ℕ) (s : State) → Standing (root ∷ loose) [] [] s → root < s.world.next
loose_below root loose s st = decide (nat_lt root s.world.next) refl
  where
    less_of : (a b : ℕ) → nat_lt a b ≡ true → a < b
    less_of a b e = grind (arith, nat_tests)

    most_of : (a b : ℕ) → nat_lt a b ≡ false → b ≤ a
    most_of a b e = grind (arith, nat_tests)

    clash : (t c : ℕ) → t + c ≡ 0 → 1 ≤ t → ⊥
    clash t c e h = omega (arith, e, h)

    decide : (b : Bool) → nat_lt root s.world.next ≡ b → root < s.world.next
    decide true e = less_of root s.world.next e
    decide false e = absurd (clash (times root (root ∷ loose)) _ (st.below.places root (most_of root s.world.next e)) (in_times root (root ∷ loose) (in_self root loose)))

-- the Chain gives its place to the promise
pub record ChainTook (n link root : ℕ) (s : State) : Type 0 where
  pub stays : is_in n (falling (usual s.world) s.world (depth_of s.world) [] [] link) ≡ false
  pub owned : Owned (chain_ended n link (Some (Took root)) s)
  pub at : form_at n (listened root (replaced n root (freed link s).world)).nodes ≡ Some (Chain link)

pub chain_took : (n link root : ℕ) (s : State) → Standing (root ∷ []) [] [] s → s.world.firing ≡ Some n → form_at n s.world.nodes ≡ Some (Chain link) → ((ys : List ℕ) → Climbs s.world.nodes n ys → is_in root (n ∷ ys) ≡ false) → IsTreePlace n s.world → ChainTook n link root s
chain_took n link root s st fires_n at apart place =
    let w = s.world in
    let gs = option_to_list w.firing in
    let d = depth_of w in
    let live : is_live n w.nodes ≡ true = ap is_some at in
    let own : owns n link w.nodes ≡ true = ap (λ (o : Option Form). is_in link (parts_found o)) at ∙ in_self link [] in
    let td = (framed_tended [] [] (root ∷ []) s n [] st (inl (fires_n, live))).0 in
    let ys = td.above in
    let off = apart ys td.climbs in
    let p = link_path (is_live root w.nodes) n link root s td refl st own off in
    let fuel = fuel_for s st.room in
    let s1 = freed link s in
    let ns = falling (Holding gs) w d [] [] link in
    let f = node_frees (Holding gs) d link s in
    let st1 : Standing (root ∷ []) [] [] s1 = standing_frees (Holding gs) d link (root ∷ []) (root ∷ []) [] p.path s st p.opens p.comes fuel (λ m e. refl) (λ m. omega arith) in
    let g = node_goes (Holding gs) w d (places_one (root ∷ []) [] w st.placed st.hubs) [] [] p.path link p.opens p.comes (omega (arith, fuel)) in
    let n_out = path_stays (Holding gs) d link (root ∷ []) [] p.path s st p.opens p.comes fuel n p.on in
    let at1 : form_at n s1.world.nodes ≡ Some (Chain link) = f.forms n ∙ same_form (is_in n ns) (λ b. is_in b ns) n w.nodes (form_at n w.nodes) (Chain link) n_out at refl in
    let gone_link = root_goes (Holding gs) d link (root ∷ []) [] p.path s st p.opens p.comes fuel in
    let pq = or_parts (n == root) (is_in root ys) off in
    let can : CanReplace n root ys s1 = record {
      standing = st1;
      place = place_stays n link (root ∷ []) [] s st place;
      apart = false_by (nat_eq root n) (λ e. both_ways (is_in root (n ∷ ys)) (subst (λ (y : ℕ). is_in y (n ∷ ys) ≡ true) (same_number root n e) (in_self n ys)) off);
      n_live = ap is_some at1;
      root_below = loose_below root [] s1 st1;
      plain = ap is_hub_form at1;
      empty = λ q o. subst (λ (y : ℕ). is_live y s1.world.nodes ≡ false) (in_one q link (sym (ap (λ (x : Option Form). is_in q (parts_found x)) at1) ∙ o)) gone_link;
      climbs = climbs_stay ns (link ∷ []) p.path s s1 n ys f g n_out live td.climbs;
      off = pq.1;
    } in
    let s2 = silent (replaced n root) s1 in
    let st2 = replaced_standing n root ys s1 can in
    let s3 = silent (listened root) s2 in
    let st3 = listened_standing root (n ∷ []) [] [] s2 st2 in
    let same = listened_nodes root s2.world in
    let at3 : form_at n s3.world.nodes ≡ Some (Chain link) = ap (form_at n) same ∙ form_renamed n root n s1.world.nodes ∙ ap (some_renamed n root) at1 in
    record {
      stays = n_out;
      owned = gone_standing n [] [] s3 (λ m. ap (is_branch_of m) at3) (ap is_some at3)
          (λ q o. ap (is_live q) same ∙ ap is_some (form_renamed n root q s1.world.nodes) ∙ live_renamed n root (form_at q s1.world.nodes) ∙ can.empty q (ap (λ (x : Option Form). is_in q (parts_found x)) at1 ∙ (sym (ap (λ (x : Option Form). is_in q (parts_found x)) at3) ∙ o)))
          st3;
      at = at3;
    }

-- what doesn't hold the node that fires isn't above it
pub taken_apart : (n root : ℕ) (s : State) (ys : List ℕ) → Owned s → is_live n s.world.nodes ≡ true → holds (depth_of s.world) s.world.nodes n root ≡ false → Climbs s.world.nodes n ys → is_in root (n ∷ ys) ≡ false
taken_apart n root s ys o live not_held c = false_by (is_in root (n ∷ ys)) (λ i.
    let w = s.world in
    let whole : (without_all [] w).nodes ≡ w.nodes = filter_all (λ (e : Entry). e.number) w.nodes in
    let far = climb_holds w [] n 1 n root ys (λ m j. absurd (in_none m j)) c i (self_holds (without_all [] w).nodes n) in
    let few = few_live w.nodes (n ∷ ys) (climb_apart [] w n ys o.placed live c) (λ m j. climb_live w n m ys live c j) in
    let room = o.room in
    both_ways (holds (depth_of w) w.nodes n root) (subst (λ (es : List Entry). holds (depth_of w) es n root ≡ true) whole (holds_any (depth_of w) (1 + length ys) (without_all [] w).nodes n root (within (length ys) (length w.nodes) w.limits.slots few room) far)) not_held)
  where
    within : (a b c : ℕ) → suc a ≤ b → b ≤ c → 1 + a ≤ c + 1
    within a b c h k = omega (arith, h, k)
