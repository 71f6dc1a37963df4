-- Commands keep what a world keeps.
use Rattle.std.proofs.Common.{◌≡◌, inl, inr, ℕ, ◌+◌, ◌<◌, ◌≤◌, List, [], ◌∷◌, ◌++◌, length, Bool, true, false, cond, Option, None, Some, arith, refl, sym, ap, ◌∙◌, subst, ◌==◌}
use Rattle.std.specs.Prelude.{nat_eq}
use Rattle.std.proofs.lemmas.Bool.{false≢true}
use Rattle.std.proofs.lemmas.Bool.Decides.{nat_tests}
use Rattle.kj_base.specs.Commands.{Then as ThenCommand, Fork as ForkCommand, Eager as EagerCommand}
use Rattle.kj_model.specs.Nodes.{Entry, Form, Tree, Then, Eager, Hub, form_at, parts_of, is_in}
use Rattle.kj_model.specs.World.{World, State, Promise, HubOf, held_at, depth_of}
use Rattle.kj_model.specs.Changes.{silent, named, unnamed}
use Rattle.kj_model.specs.Places.{built}
use Rattle.kj_model.specs.Free.{Guard, Holding, free, each_freed}
use Rattle.kj_model.specs.Effects.{effect, node_of, node_named, over_named, leaf_built, dropped_held}
use Rattle.kj_model.specs.Trees.{none_if}
use Rattle.kj_model.specs.Falling.{is_branch_of, is_unnamed_hub, some_staying, falling}
use Rattle.kj_model.specs.Owned.{tree_roots}
use Rattle.kj_ownership.specs.Owners.{is_live, owns, is_hub_form}
use Rattle.kj_model.specs.Framed.{times, name_numbers}
use Rattle.kj_ownership.specs.Standing.{one_if, owned_times, Climbs, Standing, Owned}
use Rattle.kj_model.proofs.Spared.{no_form, same_number}
use Rattle.kj_model.proofs.Members.{in_either, in_right, in_one, in_self}
use Rattle.kj_model.proofs.Once.{both_ways, false_by}
use Rattle.kj_model.proofs.Falling.{node_frees}
use Rattle.kj_ownership.proofs.Flat.{Open, Comes}
use Rattle.kj_ownership.proofs.Stays.{one_place, loose_unowned, hub_unowned, in_times}
use Rattle.kj_ownership.proofs.Kept.{standing_frees}
use Rattle.kj_ownership.proofs.Climb.{climb_from, climb_apart, climb_open, none_open, path_stays, root_goes, KeptFor}
use Rattle.kj_ownership.proofs.Moves.{built_standing, built_grows, root_out, name_out, branch_out, is_fresh}
use Rattle.kj_ownership.proofs.Changed.{named_standing, unnamed_standing, listened_standing}

-- a node over the tree of a source, which leaves the map
node_is : (source t : ℕ) (w : World) → held_at source w.names ≡ Some (Promise t) → node_named source w ≡ t
node_is source t w at = ap node_of at

pub built_names : (before : Option ℕ) (form : Form) (name : ℕ) (w : World) → times name (name_numbers w.names) ≡ 0 → times name (name_numbers (built before form w).names) ≡ 0
built_names before form name w h = let g = built_grows before form w in ap (λ (v : World). times name (name_numbers v.names)) g.3 ∙ h

-- a form that leaves its own place out, and no more
pub record IsPlain (form : Form) : Type 0 where
  pub root : (n : ℕ) → root_out n (Some form) ≡ n ∷ []
  pub name : (n : ℕ) → name_out n (Some form) ≡ []
  pub branch : (n : ℕ) → branch_out n (Some form) ≡ []
  pub fresh : is_fresh (Some form) ≡ true
  pub refs : (n : ℕ) → is_branch_of n (Some form) ≡ false

plain_built : (before : Option ℕ) (form : Form) (loose out : List ℕ) (s : State) → IsPlain form → length s.world.nodes < s.world.limits.slots → Standing (parts_of form ++ loose) out [] s → Standing (s.world.next ∷ loose) out [] (silent (built before form) s)
plain_built before form loose out s plain room st =
    let next = s.world.next in
    let t = silent (built before form) s in
    let a = built_standing before form loose out s plain.fresh room (λ n h. plain.refs n) st in
    subst (λ (xs : List ℕ). Standing (xs ++ loose) out [] t) (plain.root next) (subst (λ (xs : List ℕ). Standing (root_out next (Some form) ++ loose) (xs ++ out) [] t) (plain.name next) (subst (λ (xs : List ℕ). Standing (root_out next (Some form) ++ loose) (name_out next (Some form) ++ out) xs t) (plain.branch next) a))

-- a leaf under a new name
pub leaf_standing : (name : ℕ) (form : Form) (s : State) → IsPlain form → parts_of form ≡ [] → times name (name_numbers s.world.names) ≡ 0 → length s.world.nodes < s.world.limits.slots → Owned s → Owned (silent (leaf_built name form) s)
leaf_standing name form s plain parts fresh room st =
    let t = silent (built None form) s in
    named_standing name (Promise s.world.next) [] [] [] t (built_names None form name s.world fresh) (plain_built None form [] [] s plain room (subst (λ (ps : List ℕ). Standing (ps ++ []) [] [] s) (sym parts) st))

-- a node over a source, under a new name
over_at : (name source t : ℕ) (form : ℕ → Form) (s : State) → IsPlain (form t) → parts_of (form t) ≡ t ∷ [] → held_at source s.world.names ≡ Some (Promise t) → times name (name_numbers (unnamed source s.world).names) ≡ 0 → length s.world.nodes < s.world.limits.slots → Owned s
    → Owned (silent (λ w. named name (Promise s.world.next) (built (Some t) (form t) (unnamed source w))) s)
over_at name source t form s plain parts at fresh room st =
    let s1 = silent (unnamed source) s in
    let st1 : Standing (t ∷ []) [] [] s1 = unnamed_standing source (Promise t) [] [] [] s at st in
    let s2 = silent (built (Some t) (form t)) s1 in
    named_standing name (Promise s.world.next) [] [] [] s2 (built_names (Some t) (form t) name s1.world fresh) (plain_built (Some t) (form t) [] [] s1 plain room (subst (λ (ps : List ℕ). Standing (ps ++ []) [] [] s1) (sym parts) st1))

pub over_named_standing : (name source t : ℕ) (form : ℕ → Form) (s : State) → IsPlain (form t) → parts_of (form t) ≡ t ∷ [] → held_at source s.world.names ≡ Some (Promise t) → times name (name_numbers (unnamed source s.world).names) ≡ 0 → length s.world.nodes < s.world.limits.slots → Owned s
    → Owned (silent (over_named name form source) s)
over_named_standing name source t form s plain parts at fresh room st =
    subst (λ (x : ℕ). Owned (record { world = named name (Promise s.world.next) (built (Some x) (form x) (unnamed source s.world)); past = s.past })) (sym (node_is source t s.world at)) (over_at name source t form s plain parts at fresh room st)

then_plain : (v e tree : Option ℕ) → IsPlain (Then v e tree)
then_plain v e tree = record { root = λ n. refl; name = λ n. refl; branch = λ n. refl; fresh = refl; refs = λ n. refl }

eager_plain : (t : ℕ) → IsPlain (Eager (Tree t))
eager_plain t = record { root = λ n. refl; name = λ n. refl; branch = λ n. refl; fresh = refl; refs = λ n. refl }

-- Then (1 of 6)
pub then_keeps : (guard : Guard) (name source : ℕ) (value error : Option ℕ) (t : ℕ) (s : State) → held_at source s.world.names ≡ Some (Promise t) → times name (name_numbers (unnamed source s.world).names) ≡ 0 → length s.world.nodes < s.world.limits.slots → Owned s → Owned (effect guard (ThenCommand name source value error) s)
then_keeps guard name source value error t s at fresh room st = over_named_standing name source t (λ x. Then value error (Some x)) s (then_plain value error (Some t)) refl at fresh room st

-- Eager: it listens
pub eager_keeps : (guard : Guard) (name source t : ℕ) (s : State) → held_at source s.world.names ≡ Some (Promise t) → times name (name_numbers (unnamed source s.world).names) ≡ 0 → length s.world.nodes < s.world.limits.slots → Owned s → Owned (effect guard (EagerCommand name source) s)
eager_keeps guard name source t s at fresh room st = listened_standing (node_named source s.world) [] [] [] (silent (over_named name (λ x. Eager (Tree x)) source) s) (over_named_standing name source t (λ x. Eager (Tree x)) s (eager_plain t) refl at fresh room st)

-- Fork
pub fork_keeps : (guard : Guard) (hub source t : ℕ) (s : State) → held_at source s.world.names ≡ Some (Promise t) → times hub (name_numbers (unnamed source s.world).names) ≡ 0 → length s.world.nodes < s.world.limits.slots → Owned s → Owned (effect guard (ForkCommand hub source) s)
fork_keeps guard hub source t s at fresh room st =
    let s1 = silent (unnamed source) s in
    let u = node_named source s.world in
    let form = Hub (Tree u) true [] in
    let st1 : Standing (t ∷ []) [] [] s1 = unnamed_standing source (Promise t) [] [] [] s at st in
    let st2 : Standing (u ∷ []) [] [] s1 = subst (λ (x : ℕ). Standing (x ∷ []) [] [] s1) (sym (node_is source t s.world at)) st1 in
    let st3 : Standing [] (s.world.next ∷ []) [] (silent (built None form) s1) = built_standing None form [] [] s1 refl room (λ n h. refl) st2 in
    let s4 = silent (built None form) s1 in
    listened_standing u [] [] [] (silent (named hub (HubOf s.world.next)) s4) (named_standing hub (HubOf s.world.next) [] [] [] s4 (built_names None form hub s1.world fresh) st3)

-- the free of a root that stands nowhere
pub fuel_for : (s : State) → length s.world.nodes ≤ s.world.limits.slots → length s.world.nodes < depth_of s.world
fuel_for s h = omega (arith, h)

pub head_count : (m n t : ℕ) → (m ≡ n → ⊥) → cond (n == m) 1 0 + t ≡ t
head_count m n t d = let e : nat_eq n m ≡ false = false_by (nat_eq n m) (λ i. d (same_number n m i)) in grind (arith, nat_tests)

pub unnamed_hub : (o : Option Form) → is_unnamed_hub o ≡ true → is_hub_form o ≡ true
unnamed_hub None u = absurd (false≢true u)
unnamed_hub (Some (Hub content false branches)) u = refl
unnamed_hub (Some (Hub content true branches)) u = refl
unnamed_hub (Some _) u = absurd (false≢true u)

pub loose_hub : (loose out lone : List ℕ) (s : State) (r : ℕ) → Standing loose out lone s → is_live r s.world.nodes ≡ true → is_in r loose ≡ true → is_hub_form (form_at r s.world.nodes) ≡ true → ⊥
loose_hub loose out lone s r st live i hub =
    let a = st.placed.once r live in
    let b = in_times r loose i in
    let c : one_if (is_hub_form (form_at r s.world.nodes)) ≡ 1 = ap one_if hub in
    clash (times r loose) (times r (tree_roots s.world)) (one_if (is_hub_form (form_at r s.world.nodes))) (owned_times r s.world.nodes) a b c
  where
    clash : (a b c d : ℕ) → a + (b + (c + d)) ≡ 1 → 1 ≤ a → c ≡ 1 → ⊥
    clash a b c d e f g = omega (arith, e, f, g)

pub loose_comes : (guard : Guard) (loose out lone path : List ℕ) (s : State) (r : ℕ) → Standing loose out lone s → is_in r loose ≡ true → is_in r path ≡ false → is_live r s.world.nodes ≡ true → Comes guard s.world [] path r
loose_comes guard loose out lone path s r st i off live = record {
  off = off;
  up = λ q own. absurd (both_ways (owns q r s.world.nodes) own (loose_unowned loose s.world r q st.placed live i));
  lost = λ u. absurd (loose_hub loose out lone s r st live i (unnamed_hub (form_at r s.world.nodes) u));
}

pub free_loose : (guard : Guard) (r : ℕ) (loose out : List ℕ) (s : State) → Standing (r ∷ loose) out [] s → Standing loose out [] (free guard r s)
free_loose guard r loose out s st = standing_frees guard (depth_of s.world) r (r ∷ loose) loose out [] s st (none_open guard s.world) (loose_comes guard (r ∷ loose) out [] [] s r st (in_self r loose) refl) (fuel_for s st.room)
    (λ m d. head_count m r (times m loose) d) (λ m. omega arith)

pub each_loose : (guard : Guard) (ns loose out : List ℕ) (s : State) → Standing (ns ++ loose) out [] s → Standing loose out [] (each_freed (free guard) ns s)
each_loose guard [] loose out s st = st
each_loose guard (n ∷ ns) loose out s st = each_loose guard ns loose out (free guard n s) (free_loose guard n (ns ++ loose) out s st)

-- Drop of a promise
pub drop_keeps : (guard : Guard) (name r : ℕ) (s : State) → held_at name s.world.names ≡ Some (Promise r) → Owned s → Owned (dropped_held guard name (Some (Promise r)) s)
drop_keeps guard name r s at st = free_loose guard r [] [] (silent (unnamed name) s) (unnamed_standing name (Promise r) [] [] [] s at st)

-- a node that another owns isn't on the path of that one
pub owned_off : (loose out lone : List ℕ) (s : State) (n t : ℕ) (ys : List ℕ) → Standing loose out lone s → is_live n s.world.nodes ≡ true → is_live t s.world.nodes ≡ true → owns n t s.world.nodes ≡ true → Climbs s.world.nodes n ys → is_in t (n ∷ ys) ≡ false
owned_off loose out lone s n t ys st live t_live own c = false_by (is_in t (n ∷ ys)) (λ i. elim (in_either t (n ∷ []) ys i) [
  | inl a ↦ self_owned ys c (subst (λ (y : ℕ). owns n y s.world.nodes ≡ true) (sym (in_one t n a)) own) (climb_apart loose s.world n ys st.placed live c).0
  | inr b ↦ let r = climb_from s.world.nodes n t ys c b in above r.0 r.1 (λ m j. r.3 m (in_right m (t ∷ []) r.0 j))
])
  where
    self_owned : (ys : List ℕ) → Climbs s.world.nodes n ys → owns n n s.world.nodes ≡ true → is_in n ys ≡ false → ⊥
    self_owned [] c o f = both_ways (owns n n s.world.nodes) o (c n)
    self_owned (y ∷ ys) c o f = both_ways (is_in n (y ∷ ys)) (subst (λ (z : ℕ). is_in z (y ∷ ys) ≡ true) (one_place loose s.world n y n st.placed live c.0 o) (in_self y ys)) f

    above : (zs : List ℕ) → Climbs s.world.nodes t zs → ((m : ℕ) → is_in m zs ≡ true → is_in m ys ≡ true) → ⊥
    above [] c2 within = both_ways (owns n t s.world.nodes) own (c2 n)
    above (z ∷ zs) c2 within = both_ways (is_in n ys) (within n (subst (λ (y : ℕ). is_in y (z ∷ zs) ≡ true) (one_place loose s.world t z n st.placed t_live c2.0 own) (in_self z zs))) (climb_apart loose s.world n ys st.placed live c).0

pub owned_comes : (guard : Guard) (loose out lone : List ℕ) (s : State) (n t : ℕ) (ys : List ℕ) → Standing loose out lone s → is_live n s.world.nodes ≡ true → owns n t s.world.nodes ≡ true → Climbs s.world.nodes n ys → is_live t s.world.nodes ≡ true → Comes guard s.world [] (n ∷ ys) t
owned_comes guard loose out lone s n t ys st live own c t_live = record {
  off = owned_off loose out lone s n t ys st live t_live own c;
  up = λ q o. subst (λ (y : ℕ). is_in y (n ∷ ys) ≡ true) (one_place loose s.world t n q st.placed t_live own o) (in_self n ys);
  lost = λ u. absurd (both_ways (owns n t s.world.nodes) own (hub_unowned loose s.world t n st.placed (unnamed_hub (form_at t s.world.nodes) u)));
}

-- a node with its owner on a path whose hubs the guard keeps
pub record Tended (gs : List ℕ) (s : State) (n : ℕ) : Type 0 where
  pub live : is_live n s.world.nodes ≡ true
  pub above : List ℕ
  pub climbs : Climbs s.world.nodes n above
  pub hubs : (h : ℕ) → is_in h (n ∷ above) ≡ true → is_hub_form (form_at h s.world.nodes) ≡ true → KeptFor gs s.world (n ∷ above) h

pub tended_open : (loose out lone gs : List ℕ) (s : State) (n : ℕ) → Standing loose out lone s → (t : Tended gs s n) → Open (Holding gs) s.world [] [] (n ∷ t.above)
tended_open loose out lone gs s n st t = climb_open loose out lone gs s n t.above st t.live t.climbs (λ h i u. t.hubs h i (unnamed_hub (form_at h s.world.nodes) u))

-- the tree of a tended node is freed: the node stays with its form, and the tree is gone
pub record TreeFreed (gs loose out : List ℕ) (s : State) (n t : ℕ) : Type 0 where
  pub standing : Standing loose out [] (free (Holding gs) t s)
  pub went : is_live t (free (Holding gs) t s).world.nodes ≡ false
  pub stays : (m : ℕ) → is_in m (falling (Holding gs) s.world (depth_of s.world) [] [] t) ≡ true → is_in m (n ∷ []) ≡ false
  pub form : (f : Form) → is_hub_form (Some f) ≡ false → form_at n s.world.nodes ≡ Some f → form_at n (free (Holding gs) t s).world.nodes ≡ Some f

pub same_form : (c : Bool) (out : ℕ → Bool) (n : ℕ) (nodes : List Entry) (o : Option Form) (f : Form) → c ≡ false → o ≡ Some f → is_hub_form (Some f) ≡ false → none_if c (some_staying out n nodes o) ≡ Some f
same_form true out n nodes o f e at hub = absurd (false≢true (sym e))
same_form false out n nodes None f e at hub = absurd (no_form f at)
same_form false out n nodes (Some (Hub content is_named branches)) f e at hub = absurd (both_ways (is_hub_form (Some f)) (sym (ap is_hub_form at)) hub)
same_form false out n nodes (Some _) f e at hub = at

pub tree_freed : (gs loose out : List ℕ) (s : State) (n t : ℕ) → Standing loose out [] s → Tended gs s n → owns n t s.world.nodes ≡ true → TreeFreed gs loose out s n t
tree_freed gs loose out s n t st tended own =
    let opens = tended_open loose out [] gs s n st tended in
    let comes = owned_comes (Holding gs) loose out [] s n t tended.above st tended.live own tended.climbs in
    let fuel = fuel_for s st.room in
    let d = depth_of s.world in
    let out_of : is_in n (falling (Holding gs) s.world d [] [] t) ≡ false = path_stays (Holding gs) d t loose out (n ∷ tended.above) s st opens comes fuel n (in_self n tended.above) in
    record {
      standing = standing_frees (Holding gs) d t loose loose out (n ∷ tended.above) s st opens comes fuel (λ m e. refl) (λ m. omega arith);
      went = root_goes (Holding gs) d t loose out (n ∷ tended.above) s st opens comes fuel;
      stays = λ m i. false_by (is_in m (n ∷ [])) (λ j. both_ways (is_in n (falling (Holding gs) s.world d [] [] t)) (subst (λ (y : ℕ). is_in y (falling (Holding gs) s.world d [] [] t) ≡ true) (sym (in_one m n j)) i) out_of);
      form = λ f hub at. (node_frees (Holding gs) d t s).forms n ∙ same_form (is_in n (falling (Holding gs) s.world d [] [] t)) (λ b. is_in b (falling (Holding gs) s.world d [] [] t)) n s.world.nodes (form_at n s.world.nodes) f out_of at hub;
    }
