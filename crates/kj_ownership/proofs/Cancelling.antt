-- Cancel, while nodes are being evaluated.
use Rattle.std.proofs.Common.{◌≡◌, ◌⊎◌, inl, inr, ℕ, List, [], ◌∷◌, Bool, true, false, Option, None, Some, arith, refl, sym, ap, ◌∙◌, subst, ◌||◌, ◌==◌}
use Rattle.std.specs.Prelude.{is_some, nat_eq, option_to_list}
use Rattle.std.proofs.lemmas.Bool.{false≢true, or_parts}
use Rattle.std.proofs.lemmas.Bool.Decides.{nat_tests}
use Rattle.kj_base.specs.Queue.{DepthFirst}
use Rattle.kj_model.specs.Outcomes.{cancelled}
use Rattle.kj_model.specs.Nodes.{Entry, Form, Tree, Kept, Wrap, Hub, Then, Side, Race, Join, Task, form_at, parts_of, parts_found, is_in, with_form, holds}
use Rattle.kj_model.specs.World.{World, State, depth_of}
use Rattle.kj_model.specs.Changes.{put}
use Rattle.kj_model.specs.Listening.{announced}
use Rattle.kj_model.specs.Grown.{Grows}
use Rattle.kj_model.specs.Free.{Holding, free, is_guarded}
use Rattle.kj_model.specs.Effects.{wrap_cancelled, each_cancelled, disarmed_node}
use Rattle.kj_model.specs.Apply.{is_unsettled_wrap}
use Rattle.kj_model.specs.Trees.{none_if}
use Rattle.kj_model.specs.Falling.{some_staying, falling, without_all}
use Rattle.kj_model.specs.Framed.{FreedBy}
use Rattle.kj_ownership.specs.Owners.{is_live, owns}
use Rattle.kj_ownership.specs.Standing.{Climbs, Owned}
use Rattle.kj_ownership.specs.Stems.{stem, Begins, Frames, is_walked, fires, is_steady}
use Rattle.kj_ownership.specs.Shapes.{Shaped}
use Rattle.kj_model.proofs.Spared.{same_number, form_put_same, form_put_other}
use Rattle.kj_model.proofs.Members.{in_either, in_left, in_right, in_one, in_self, in_none}
use Rattle.kj_model.proofs.Once.{both_ways, false_by}
use Rattle.kj_model.proofs.Falling.{node_frees}
use Rattle.kj_ownership.proofs.Flat.{Open, Comes, Goes, node_goes}
use Rattle.kj_ownership.proofs.Stays.{one_place, places_one, live_after, climbs_stay, hub_unowned}
use Rattle.kj_ownership.proofs.Climb.{climb_live, climb_up, path_stays}
use Rattle.kj_ownership.proofs.Commands.{Tended, tended_open, owned_comes, fuel_for, same_form, unnamed_hub}
use Rattle.kj_ownership.proofs.Frames.{framed_tended, within_more, owner_on, frames_same, stem_stays}
use Rattle.kj_ownership.proofs.Busy.{goes_down}
use Rattle.kj_ownership.proofs.Cancels.{wrap_any}
use Rattle.kj_ownership.proofs.Shapes.{shaped_put, empty_suits}
use Rattle.kj_ownership.proofs.Evaluates.{SameTurn, turn_both, frame_live}
use Rattle.kj_ownership.proofs.Reached.{announced_only, shaped_only, shaped_queue}
use Rattle.kj_ownership.proofs.Walks.{went_reached, Walks, walks_both, climb_one, shaped_free_to, turn_free_to, reached_here}
use Rattle.kj_ownership.proofs.Calm.{Tells, tells_freed, tells_later, tells_before}
use Rattle.kj_model.proofs.Growing.{stays, then_grows, free_grows}
use Rattle.kj_ownership.proofs.Unions.{union, in_union, first_union, second_union, open_both}

-- a Wrap's own climb is a path, whose hubs its guard keeps
abbrev pub wrap_tended : (gs : List ℕ) (x : ℕ) (s : State) (ys : List ℕ) → is_live x s.world.nodes ≡ true → Climbs s.world.nodes x ys → Tended (x ∷ gs) s x
wrap_tended gs x s ys live c = record { live = live; above = ys; climbs = c; hubs = λ h i u. record { node = x; above = ys; guards = in_self x gs; climbs = c; holds_hub = i; on = λ m j. j } }

-- a guard with more nodes keeps more hubs
or_right : (a b : Bool) → b ≡ true → (a || b) ≡ true
or_right true b e = refl
or_right false b e = e

pub open_wider : (gs : List ℕ) (x : ℕ) (w : World) (path : List ℕ) → Open (Holding gs) w [] [] path → Open (Holding (x ∷ gs)) w [] [] path
open_wider gs x w path o = record {
  up = o.up;
  lost = λ h i u. elim (o.lost h i u) [ inl f ↦ inl f | inr g ↦ inr (λ gone d. or_right (holds (depth_of (without_all gone w)) (without_all gone w).nodes x h) (is_guarded (Holding gs) h (without_all gone w)) (g gone d)) ];
  way_in = o.way_in;
  apart = o.apart;
  live = o.live;
  off = o.off;
}

-- off the climb of a node
abbrev pub IsOff : ℕ → ℕ → State → Type 0
IsOff x n s = (ys : List ℕ) → Climbs s.world.nodes n ys → is_in x (n ∷ ys) ≡ false

-- a form without parts in place of another, off a climb
pub climb_put : (x : ℕ) (form old : Form) (nodes : List Entry) (n : ℕ) (ys : List ℕ) → form_at x nodes ≡ Some old → parts_of form ≡ [] → is_in x (n ∷ ys) ≡ false → Climbs nodes n ys → Climbs (with_form x form nodes) n ys
climb_put x form old nodes n [] at none off c = λ q. by_owner q (nat_eq x q) refl
  where
    by_owner : (q : ℕ) (b : Bool) → nat_eq x q ≡ b → owns q n (with_form x form nodes) ≡ false
    by_owner q true e = false_by (owns q n (with_form x form nodes)) (λ o. in_none n (sym (ap (is_in n) none) ∙ sym (ap (λ (y : Option Form). is_in n (parts_found y)) (subst (λ (z : ℕ). form_at z (with_form x form nodes) ≡ Some form) (sym (same_number x q e)) (form_put_same x form old nodes at))) ∙ o))
    by_owner q false e = ap (λ (y : Option Form). is_in n (parts_found y)) (form_put_other x q form nodes e) ∙ c q
climb_put x form old nodes n (y ∷ ys) at none off c =
    let p = or_parts (n == x) (is_in x (y ∷ ys)) off in
    let q = or_parts (y == x) (is_in x ys) p.1 in
    (ap (λ (z : Option Form). is_in n (parts_found z)) (form_put_other x y form nodes (swap y x q.0)) ∙ c.0, climb_put x form old nodes y ys at none p.1 c.1)
  where
    swap : (a b : ℕ) → nat_eq a b ≡ false → nat_eq b a ≡ false
    swap a b h = grind (arith, nat_tests)

-- the end of a Wrap

wrap_nodes : (x c : ℕ) (w : World) → (announced DepthFirst x (put x (Wrap c (Kept cancelled)) (disarmed_node x w))).nodes ≡ with_form x (Wrap c (Kept cancelled)) w.nodes
wrap_nodes x c w = ap (λ (v : World). v.nodes) (announced_only DepthFirst x (put x (Wrap c (Kept cancelled)) (disarmed_node x w))).same

pub wrap_same : (x c : ℕ) (w : World) → SameTurn w (announced DepthFirst x (put x (Wrap c (Kept cancelled)) (disarmed_node x w)))
wrap_same x c w = let o = announced_only DepthFirst x (put x (Wrap c (Kept cancelled)) (disarmed_node x w)) in record { firing = ap (λ (v : World). v.firing) o.same; awaited = ap (λ (v : World). v.awaited) o.same; left_over = ap (λ (v : World). v.left_over) o.same }

pub wrap_shaped : (x c t : ℕ) (w : World) → form_at x w.nodes ≡ Some (Wrap c (Tree t)) → Shaped w → Shaped (announced DepthFirst x (put x (Wrap c (Kept cancelled)) (disarmed_node x w)))
wrap_shaped x c t w at sh =
    let v = put x (Wrap c (Kept cancelled)) (disarmed_node x w) in
    shaped_only v (announced DepthFirst x v) (announced_only DepthFirst x v)
    (shaped_put x (Wrap c (Kept cancelled)) (Wrap c (Tree t)) (disarmed_node x w) at (empty_suits (Wrap c (Tree t)) (Wrap c (Kept cancelled)) (record { tree = refl; link = refl; side = refl; task = refl; request = λ n. refl; ended = λ h. h }) refl refl) (shaped_queue _ w sh))

-- a Wrap that was unsettled
wrap_before : (b : Bool) (out : ℕ → Bool) (n : ℕ) (nodes : List Entry) (o : Option Form) → is_unsettled_wrap (none_if b (some_staying out n nodes o)) ≡ true → is_unsettled_wrap o ≡ true
wrap_before true out n nodes o e = absurd (false≢true e)
wrap_before false out n nodes None e = e
wrap_before false out n nodes (Some (Hub content is_named branches)) e = absurd (false≢true e)
wrap_before false out n nodes (Some _) e = e

-- what one Wrap's cancel does
pub record WrapCancels (gs : List ℕ) (x c t : ℕ) (s : State) (ns : List ℕ) (path : List ℕ) : Type 0 where
  pub freed : FreedBy ns s (free (Holding (x ∷ gs)) t s)
  pub goes : Goes s.world path [] (t ∷ []) ns
  pub at : form_at x (free (Holding (x ∷ gs)) t s).world.nodes ≡ Some (Wrap c (Tree t))

pub wrap_cancels : (gs : List ℕ) (x c t : ℕ) (s : State) (path : List ℕ) → form_at x s.world.nodes ≡ Some (Wrap c (Tree t)) → Owned s → Open (Holding (x ∷ gs)) s.world [] [] path → (is_live t s.world.nodes ≡ true → Comes (Holding (x ∷ gs)) s.world [] path t) → is_in x path ≡ true → WrapCancels gs x c t s (falling (Holding (x ∷ gs)) s.world (depth_of s.world) [] [] t) path
wrap_cancels gs x c t s path at st opens comes on =
    let d = depth_of s.world in
    let fuel = fuel_for s st.room in
    let ns = falling (Holding (x ∷ gs)) s.world d [] [] t in
    let fr = node_frees (Holding (x ∷ gs)) d t s in
    let off = path_stays (Holding (x ∷ gs)) d t [] [] path s st opens comes fuel x on in
    record {
      freed = fr;
      goes = node_goes (Holding (x ∷ gs)) s.world d (places_one [] [] s.world st.placed st.hubs) [] [] path t opens comes (omega (arith, fuel));
      at = fr.forms x ∙ same_form (is_in x ns) (λ b. is_in b ns) x s.world.nodes (form_at x s.world.nodes) (Wrap c (Tree t)) off at refl;
    }

pub owns_tree : (x c t : ℕ) (nodes : List Entry) → form_at x nodes ≡ Some (Wrap c (Tree t)) → owns x t nodes ≡ true
owns_tree x c t nodes at = ap (λ (o : Option Form). is_in t (parts_found o)) at ∙ in_self t []

pub unsettled_back : (gs : List ℕ) (x c t m : ℕ) (s : State) (ns path : List ℕ) → WrapCancels gs x c t s ns path → is_unsettled_wrap (form_at m (wrap_cancelled (Holding gs) x (Some (Wrap c (Tree t))) s).world.nodes) ≡ true → is_unsettled_wrap (form_at m s.world.nodes) ≡ true
unsettled_back gs x c t m s ns path w e = by_case (nat_eq x m) refl
  where
    s1 : State
    s1 = free (Holding (x ∷ gs)) t s

    later : is_unsettled_wrap (form_at m (with_form x (Wrap c (Kept cancelled)) (free (Holding (x ∷ gs)) t s).world.nodes)) ≡ true
    later = sym (ap (λ es. is_unsettled_wrap (form_at m es)) (wrap_nodes x c (free (Holding (x ∷ gs)) t s).world)) ∙ e

    by_case : (b : Bool) → nat_eq x m ≡ b → is_unsettled_wrap (form_at m s.world.nodes) ≡ true
    by_case true d = absurd (false≢true (sym (ap is_unsettled_wrap (subst (λ (z : ℕ). form_at z (with_form x (Wrap c (Kept cancelled)) (free (Holding (x ∷ gs)) t s).world.nodes) ≡ Some (Wrap c (Kept cancelled))) (sym (same_number x m d)) (form_put_same x (Wrap c (Kept cancelled)) (Wrap c (Tree t)) (free (Holding (x ∷ gs)) t s).world.nodes w.at))) ∙ later))
    by_case false d = wrap_before (is_in m ns) (λ b. is_in b ns) m s.world.nodes (form_at m s.world.nodes) (sym (ap is_unsettled_wrap (form_put_other x m (Wrap c (Kept cancelled)) (free (Holding (x ∷ gs)) t s).world.nodes d ∙ w.freed.forms m)) ∙ later)

-- one Wrap off the climb of the nodes that are being evaluated
pub walks_wrap : (x c t : ℕ) (s : State) (n : ℕ) (fs : List ℕ) (o : Option ℕ) → s.world.firing ≡ o → form_at x s.world.nodes ≡ Some (Wrap c (Tree t)) → Owned s → Shaped s.world → Frames s.world n fs → IsOff x n s
    → Walks [] [] s (wrap_cancelled (Holding (option_to_list o)) x (Some (Wrap c (Tree t))) s) n fs × ((m : ℕ) → IsOff m n s → IsOff m n (wrap_cancelled (Holding (option_to_list o)) x (Some (Wrap c (Tree t))) s)) × ((m : ℕ) → is_unsettled_wrap (form_at m (wrap_cancelled (Holding (option_to_list o)) x (Some (Wrap c (Tree t))) s).world.nodes) ≡ true → is_unsettled_wrap (form_at m s.world.nodes) ≡ true)
walks_wrap x c t s n fs o firing at st sh f off =
    let gs = option_to_list o in
    let live : is_live x s.world.nodes ≡ true = ap is_some at in
    let cx = st.placed.climbs x live in
    let tx = wrap_tended gs x s cx.0 live cx.1 in
    let own = owns_tree x c t s.world.nodes at in
    let both = framed_tended [] [] [] s n fs st f in
    let tn = both.0 in
    let px = x ∷ cx.0 in
    let pn = n ∷ tn.above in
    let open_n = subst (λ (p : Option ℕ). Open (Holding (option_to_list p)) s.world [] [] pn) firing (tended_open [] [] [] (option_to_list s.world.firing) s n st tn) in
    let opens = open_both (Holding (x ∷ gs)) s.world px pn (tended_open [] [] [] (x ∷ gs) s x st tx) (open_wider gs x s.world pn open_n) in
    let x_off = off tn.above tn.climbs in
    let comes : is_live t s.world.nodes ≡ true → Comes (Holding (x ∷ gs)) s.world [] (union px pn) t = λ t_live.
    (let here = owned_comes (Holding (x ∷ gs)) [] [] [] s x t cx.0 st live own cx.1 t_live in record {
      off = false_by (is_in t (union px pn)) (λ i. elim (in_union t px pn i) [
        | inl j ↦ both_ways (is_in t px) j here.off
        | inr j ↦ both_ways (is_in x pn) (climb_up [] s.world n t x tn.above st.placed tn.live tn.climbs j own) x_off
      ]);
      up = λ q p. first_union q px pn (here.up q p);
      lost = λ u. absurd (both_ways (owns x t s.world.nodes) own (hub_unowned [] s.world t x st.placed (unnamed_hub (form_at t s.world.nodes) u)));
    }) in
    let d = depth_of s.world in
    let fuel = fuel_for s st.room in
    let ns = falling (Holding (x ∷ gs)) s.world d [] [] t in
    let w = wrap_cancels gs x c t s (union px pn) at st opens comes (first_union x px pn (in_self x cx.0)) in
    let away = λ (m : ℕ) (i : is_in m pn ≡ true). path_stays (Holding (x ∷ gs)) d t [] [] (union px pn) s st opens comes fuel m (second_union m px pn i) in
    let s1 = free (Holding (x ∷ gs)) t s in
    let s2 = wrap_cancelled (Holding gs) x (Some (Wrap c (Tree t))) s in
    let form = Wrap c (Kept cancelled) in
    let differs = λ (m : ℕ) (i : is_in m pn ≡ true). false_by (nat_eq x m) (λ e. both_ways (is_in x pn) (subst (λ (y : ℕ). is_in y pn ≡ true) (same_number x m e) i) x_off) in
    let stems = λ (m : ℕ) (j : is_in m pn ≡ true).
    ap (λ es. stem (form_at m es)) (wrap_nodes x c s1.world) ∙ ap stem (form_put_other x m form s1.world.nodes (differs m j)) ∙ ap stem (w.freed.forms m) ∙ stem_stays (is_in m ns) (λ b. is_in b ns) m s.world.nodes (form_at m s.world.nodes) (away m j) in
    let forms : (m : ℕ) → is_in m (n ∷ fs) ≡ true → stem (form_at m s2.world.nodes) ≡ stem (form_at m s.world.nodes) = λ m i. stems m (within_more n m fs tn.above both.1 i) in
    let same = turn_both s.world s1.world s2.world (turn_free_to (Holding (x ∷ gs)) d t s) (wrap_same x c s1.world) in
    let st2 = wrap_any (Some (Wrap c (Tree t))) gs x [] [] s at st in
    let c1 : Climbs s1.world.nodes n tn.above = climbs_stay ns (t ∷ []) (union px pn) s s1 n tn.above w.freed w.goes (away n (in_self n tn.above)) tn.live tn.climbs in
    let c2 : Climbs s2.world.nodes n tn.above = subst (λ (es : List Entry). Climbs es n tn.above) (sym (wrap_nodes x c s1.world)) (climb_put x form (Wrap c (Tree t)) s1.world.nodes n tn.above w.at refl x_off c1) in
    let frames2 = frames_same s.world s2.world n fs same.firing same.awaited forms f in (
      record {
        went = record { standing = st2; shaped = wrap_shaped x c t s1.world w.at (shaped_free_to (Holding (x ∷ gs)) d t s sh); same = same };
        frames = frames2;
        owner = λ b q fires own_b. stems q (owner_on (Holding gs) s.world n fs tn.above b q f both.1 open_n fires own_b);
        forms = forms;
      },
      (λ m m_off ys cy. false_by (is_in m (n ∷ ys)) (λ j. both_ways (is_in m pn) (climb_one [] s2.world n m ys tn.above st2.placed (frame_live s2.world n fs frames2) cy c2 j) (m_off tn.above tn.climbs))),
      λ m e. unsettled_back gs x c t m s ns (union px pn) w e,
    )

walks_still : (s : State) (n : ℕ) (fs : List ℕ) → Owned s → Shaped s.world → Frames s.world n fs → Walks [] [] s s n fs
walks_still s n fs st sh f = record { went = went_reached [] [] s s (reached_here [] [] [] s st sh); frames = f; owner = λ b q g e. refl; forms = λ m i. refl }

-- the Wraps of a list, where each that is unsettled is off the climb
walks_maybe : (p : Option Form) (x : ℕ) (s : State) (n : ℕ) (fs : List ℕ) (o : Option ℕ) → s.world.firing ≡ o → form_at x s.world.nodes ≡ p → Owned s → Shaped s.world → Frames s.world n fs → (is_unsettled_wrap p ≡ true → IsOff x n s)
    → Walks [] [] s (wrap_cancelled (Holding (option_to_list o)) x p s) n fs × ((m : ℕ) → IsOff m n s → IsOff m n (wrap_cancelled (Holding (option_to_list o)) x p s)) × ((m : ℕ) → is_unsettled_wrap (form_at m (wrap_cancelled (Holding (option_to_list o)) x p s).world.nodes) ≡ true → is_unsettled_wrap (form_at m s.world.nodes) ≡ true)
walks_maybe (Some (Wrap c (Tree t))) x s n fs o firing at st sh f off = walks_wrap x c t s n fs o firing at st sh f (off refl)
walks_maybe (Some (Wrap c (Kept k))) x s n fs o firing at st sh f off = (walks_still s n fs st sh f, (λ m h. h), λ m e. e)
walks_maybe None x s n fs o firing at st sh f off = (walks_still s n fs st sh f, (λ m h. h), λ m e. e)
walks_maybe (Some _) x s n fs o firing at st sh f off = (walks_still s n fs st sh f, (λ m h. h), λ m e. e)

pub walks_list : (xs : List ℕ) (s : State) (n : ℕ) (fs : List ℕ) (o : Option ℕ) → s.world.firing ≡ o → Owned s → Shaped s.world → Frames s.world n fs → ((x : ℕ) → is_in x xs ≡ true → is_unsettled_wrap (form_at x s.world.nodes) ≡ true → IsOff x n s) → Walks [] [] s (each_cancelled (Holding (option_to_list o)) xs s) n fs
walks_list [] s n fs o firing st sh f off = walks_still s n fs st sh f
walks_list (x ∷ xs) s n fs o firing st sh f off =
    let a = walks_maybe (form_at x s.world.nodes) x s n fs o firing refl st sh f (λ e. off x (in_self x xs) e) in
    let t = wrap_cancelled (Holding (option_to_list o)) x (form_at x s.world.nodes) s in
    let b = walks_list xs t n fs o (a.0.went.same.firing ∙ firing) a.0.went.standing a.0.went.shaped a.0.frames (λ y i e. a.1 y (off y (in_right y (x ∷ []) xs i) (a.2 y e))) in
    walks_both [] [] [] [] s t (each_cancelled (Holding (option_to_list o)) xs t) n fs a.0 b

-- the cancel alone: what stands under a Wrap that it settles is told
part_on : (nodes : List Entry) (f x : ℕ) (zs : List ℕ) → Climbs nodes f zs → is_in x zs ≡ true → (p : ℕ) × (owns x p nodes ≡ true) × (is_in p (f ∷ zs) ≡ true)
part_on nodes f x [] c i = absurd (in_none x i)
part_on nodes f x (z ∷ zs) c i = elim (in_either x (z ∷ []) zs i) [
  | inl a ↦ (f, subst (λ (y : ℕ). owns y f nodes ≡ true) (in_one x z a) c.0, in_self f (z ∷ zs))
  | inr b ↦ (let r = part_on nodes z x zs c.1 b in (r.0, r.1, in_right r.0 (f ∷ []) (z ∷ zs) r.2))
]

wrap_part : (nodes : List Entry) (x c t f : ℕ) (zs : List ℕ) → form_at x nodes ≡ Some (Wrap c (Tree t)) → Climbs nodes f zs → is_in x zs ≡ true → is_in t (f ∷ zs) ≡ true
wrap_part nodes x c t f zs at cl i =
    let r = part_on nodes f x zs cl i in
    subst (λ (y : ℕ). is_in y (f ∷ zs) ≡ true) (sym (in_one r.0 t (sym (ap (λ (o : Option Form). is_in r.0 (parts_found o)) at) ∙ r.1))) r.2

cancel_grows : (p : Option Form) (gs : List ℕ) (x : ℕ) (s : State) → Grows s (wrap_cancelled (Holding gs) x p s)
cancel_grows (Some (Wrap c (Tree t))) gs x s = free_grows (Holding (x ∷ gs)) t s
cancel_grows (Some (Wrap c (Kept k))) gs x s = stays s
cancel_grows None gs x s = stays s
cancel_grows (Some _) gs x s = stays s

list_grows : (xs : List ℕ) (gs : List ℕ) (s : State) → Grows s (each_cancelled (Holding gs) xs s)
list_grows [] gs s = stays s
list_grows (x ∷ xs) gs s = then_grows s (wrap_cancelled (Holding gs) x (form_at x s.world.nodes) s) (each_cancelled (Holding gs) xs (wrap_cancelled (Holding gs) x (form_at x s.world.nodes) s)) (cancel_grows (form_at x s.world.nodes) gs x s) (list_grows xs gs (wrap_cancelled (Holding gs) x (form_at x s.world.nodes) s))

-- one Wrap of the list, and then the rest of it
record StillUnder (f x y : ℕ) (zs : List ℕ) (s t : State) : Type 0 where
  standing : Owned t
  live : is_live f t.world.nodes ≡ true
  climbs : Climbs t.world.nodes f zs
  unsettled : is_unsettled_wrap (form_at x t.world.nodes) ≡ true
  back : (m : ℕ) → is_unsettled_wrap (form_at m t.world.nodes) ≡ true → is_unsettled_wrap (form_at m s.world.nodes) ≡ true
  other : nat_eq y x ≡ false

wrap_after : (b : Bool) (out : ℕ → Bool) (n : ℕ) (nodes : List Entry) (o : Option Form) → b ≡ false → is_unsettled_wrap o ≡ true → is_unsettled_wrap (none_if b (some_staying out n nodes o)) ≡ true
wrap_after true out n nodes o e u = absurd (false≢true (sym e))
wrap_after false out n nodes None e u = u
wrap_after false out n nodes (Some (Hub content is_named branches)) e u = u
wrap_after false out n nodes (Some _) e u = u

tells_or_stays : (c t : ℕ) (y : ℕ) (s : State) (f x : ℕ) (zs : List ℕ) → form_at y s.world.nodes ≡ Some (Wrap c (Tree t)) → Owned s → is_live f s.world.nodes ≡ true → Climbs s.world.nodes f zs → is_in x zs ≡ true → is_unsettled_wrap (form_at x s.world.nodes) ≡ true → nat_eq y f ≡ false
    → (Tells f s (wrap_cancelled (Holding []) y (Some (Wrap c (Tree t))) s)) ⊎ (StillUnder f x y zs s (wrap_cancelled (Holding []) y (Some (Wrap c (Tree t))) s))
tells_or_stays c t y s f x zs at st live cl i u y_f =
    let y_live : is_live y s.world.nodes ≡ true = ap is_some at in
    let cy = st.placed.climbs y y_live in
    let own = owns_tree y c t s.world.nodes at in
    let path = y ∷ cy.0 in
    let opens = tended_open [] [] [] (y ∷ []) s y st (wrap_tended [] y s cy.0 y_live cy.1) in
    let comes = owned_comes (Holding (y ∷ [])) [] [] [] s y t cy.0 st y_live own cy.1 in
    let ns = falling (Holding (y ∷ [])) s.world (depth_of s.world) [] [] t in
    let w = wrap_cancels [] y c t s path at st opens comes (in_self y cy.0) in
    decide ns path w (is_in f ns) refl
  where
    decide : (ns path : List ℕ) → WrapCancels [] y c t s ns path → (b : Bool) → is_in f ns ≡ b → (Tells f s (wrap_cancelled (Holding []) y (Some (Wrap c (Tree t))) s)) ⊎ (StillUnder f x y zs s (wrap_cancelled (Holding []) y (Some (Wrap c (Tree t))) s))
    decide ns path w true e = inl (let g = tells_freed f ns s (free (Holding (y ∷ [])) t s) w.freed e in record { more = g.more; told = g.told; has = g.has })
    decide ns path w false e =
        let s1 = free (Holding (y ∷ [])) t s in
        let s2 = wrap_cancelled (Holding []) y (Some (Wrap c (Tree t))) s in
        let down = λ (q : ℕ) (j : is_in q (f ∷ zs) ≡ true) (k : is_in q ns ≡ true). both_ways (is_in f ns) (goes_down s.world path (t ∷ []) ns f q zs w.goes live cl j k) e in
        let t_out : is_in t (f ∷ zs) ≡ true → ⊥ = λ j. down t j (w.goes.took t (in_self t []) (climb_live s.world f t zs live cl j)) in
        let y_out : is_in y (f ∷ zs) ≡ false = false_by (is_in y (f ∷ zs)) (λ j. elim (in_either y (f ∷ []) zs j) [
          | inl a ↦ both_ways (nat_eq y f) (same_yes y f (sym (in_one y f a))) y_f
          | inr b ↦ t_out (wrap_part s.world.nodes y c t f zs at cl b)
        ]) in
        let x_on = in_right x (f ∷ []) zs i in
        let x_out : is_in x ns ≡ false = false_by (is_in x ns) (λ k. down x x_on k) in
        let differs : nat_eq y x ≡ false = false_by (nat_eq y x) (λ k. both_ways (is_in y (f ∷ zs)) (subst (λ (q : ℕ). is_in q (f ∷ zs) ≡ true) (same_number y x k) x_on) y_out) in
        let nodes = wrap_nodes y c s1.world in
        let c1 = climbs_stay ns (t ∷ []) path s s1 f zs w.freed w.goes e live cl in
        inr (record {
          standing = wrap_any (Some (Wrap c (Tree t))) [] y [] [] s at st;
          live = ap (λ es. is_live f es) nodes ∙ ap is_some (form_put_other y f (Wrap c (Kept cancelled)) s1.world.nodes y_f) ∙ live_after ns s s1 f w.freed e live;
          climbs = subst (λ (es : List Entry). Climbs es f zs) (sym nodes) (climb_put y (Wrap c (Kept cancelled)) (Wrap c (Tree t)) s1.world.nodes f zs w.at refl y_out c1);
          unsettled = ap (λ es. is_unsettled_wrap (form_at x es)) nodes ∙ ap is_unsettled_wrap (form_put_other y x (Wrap c (Kept cancelled)) s1.world.nodes differs ∙ w.freed.forms x) ∙ wrap_after (is_in x ns) (λ b. is_in b ns) x s.world.nodes (form_at x s.world.nodes) x_out u;
          back = λ m. unsettled_back [] y c t m s ns path w;
          other = differs;
        })
      where
        same_yes : (a b : ℕ) → a ≡ b → nat_eq a b ≡ true
        same_yes a b h = grind (arith, nat_tests)

settled_tail : (y x : ℕ) (xs : List ℕ) (s : State) → is_unsettled_wrap (form_at y s.world.nodes) ≡ false → is_unsettled_wrap (form_at x s.world.nodes) ≡ true → is_in x (y ∷ xs) ≡ true → is_in x xs ≡ true
settled_tail y x xs s settled u i = elim (in_either x (y ∷ []) xs i) [ inl a ↦ absurd (both_ways (is_unsettled_wrap (form_at x s.world.nodes)) u (subst (λ (q : ℕ). is_unsettled_wrap (form_at q s.world.nodes) ≡ false) (in_one x y a) settled)) | inr b ↦ b ]

-- the rest of a list, after one of it
wraps_rest : (p : Option Form) (y : ℕ) (xs : List ℕ) (s : State) (f x : ℕ) (zs : List ℕ) → form_at y s.world.nodes ≡ p → Owned s → is_live f s.world.nodes ≡ true → Climbs s.world.nodes f zs → is_in x (y ∷ xs) ≡ true → is_in x zs ≡ true → is_unsettled_wrap (form_at x s.world.nodes) ≡ true
    → (is_in f (y ∷ xs) ≡ true → is_unsettled_wrap (form_at f s.world.nodes) ≡ false)
    → ((t : State) → Owned t → is_live f t.world.nodes ≡ true → Climbs t.world.nodes f zs → is_in x xs ≡ true → is_unsettled_wrap (form_at x t.world.nodes) ≡ true → (is_in f xs ≡ true → is_unsettled_wrap (form_at f t.world.nodes) ≡ false) → Tells f t (each_cancelled (Holding []) xs t))
    → Tells f s (each_cancelled (Holding []) xs (wrap_cancelled (Holding []) y p s))
wraps_rest (Some (Wrap c (Tree t))) y xs s f x zs at st live cl i j u never ih =
    let s2 = wrap_cancelled (Holding []) y (Some (Wrap c (Tree t))) s in
    let y_f : nat_eq y f ≡ false = false_by (nat_eq y f) (λ e. let same = same_number y f e in false≢true (sym (never (subst (λ (q : ℕ). is_in q (y ∷ xs) ≡ true) (sym same) (in_self y xs))) ∙ ap is_unsettled_wrap (subst (λ (q : ℕ). form_at q s.world.nodes ≡ Some (Wrap c (Tree t))) (sym same) at))) in
    elim (tells_or_stays c t y s f x zs at st live cl j u y_f) [
      | inl a ↦ tells_later f s s2 (each_cancelled (Holding []) xs s2) a (list_grows xs [] s2)
      | inr k ↦ tells_before f s s2 (each_cancelled (Holding []) xs s2) (cancel_grows (Some (Wrap c (Tree t))) [] y s)
          (ih s2 k.standing k.live k.climbs (in_tail y x xs k.other i) k.unsettled (λ m. false_by (is_unsettled_wrap (form_at f s2.world.nodes)) (λ e. false≢true (sym (never (in_right f (y ∷ []) xs m)) ∙ k.back f e))))
    ]
  where
    in_tail : (y x : ℕ) (xs : List ℕ) → nat_eq y x ≡ false → is_in x (y ∷ xs) ≡ true → is_in x xs ≡ true
    in_tail y x xs d i = grind (arith, nat_tests)
wraps_rest (Some (Wrap c (Kept k))) y xs s f x zs at st live cl i j u never ih = ih s st live cl (settled_tail y x xs s (ap is_unsettled_wrap at) u i) u (λ m. never (in_right f (y ∷ []) xs m))
wraps_rest None y xs s f x zs at st live cl i j u never ih = ih s st live cl (settled_tail y x xs s (ap is_unsettled_wrap at) u i) u (λ m. never (in_right f (y ∷ []) xs m))
wraps_rest (Some _) y xs s f x zs at st live cl i j u never ih = ih s st live cl (settled_tail y x xs s (ap is_unsettled_wrap at) u i) u (λ m. never (in_right f (y ∷ []) xs m))

pub wraps_tell : (xs : List ℕ) (s : State) (f x : ℕ) (zs : List ℕ) → Owned s → is_live f s.world.nodes ≡ true → Climbs s.world.nodes f zs → is_in x xs ≡ true → is_in x zs ≡ true → is_unsettled_wrap (form_at x s.world.nodes) ≡ true → (is_in f xs ≡ true → is_unsettled_wrap (form_at f s.world.nodes) ≡ false) → Tells f s (each_cancelled (Holding []) xs s)
wraps_tell [] s f x zs st live cl i j u never = absurd (in_none x i)
wraps_tell (y ∷ xs) s f x zs st live cl i j u never = wraps_rest (form_at y s.world.nodes) y xs s f x zs refl st live cl i j u never (λ t t_st t_live t_cl t_i t_u t_never. wraps_tell xs t f x zs t_st t_live t_cl t_i j t_u t_never)

-- where the nodes that are being evaluated end, or above
pub above_or_on : (s : State) (n x : ℕ) (fs ys : List ℕ) → Owned s → Frames s.world n fs → Climbs s.world.nodes n ys → is_in x (n ∷ ys) ≡ true → (is_in x (n ∷ fs) ≡ true) ⊎ ((b : ℕ) × Begins s.world b × (zs : List ℕ) × Climbs s.world.nodes b zs × (is_in x zs ≡ true))
above_or_on s n x [] ys st f c i = elim (in_either x (n ∷ []) ys i) [ inl a ↦ inl a | inr b ↦ inr (n, f, ys, c, b) ]
above_or_on s n x (m ∷ ms) [] st f c i = absurd (both_ways (owns m n s.world.nodes) f.1 (c m))
above_or_on s n x (m ∷ ms) (y ∷ ys) st f c i =
    let same = one_place [] s.world n y m st.placed f.0 c.0 f.1 in
    elim (in_either x (n ∷ []) (y ∷ ys) i) [
      | inl a ↦ inl (in_left x (n ∷ []) (m ∷ ms) a)
      | inr b ↦ elim (above_or_on s m x ms ys st f.4 (subst (λ (q : ℕ). Climbs s.world.nodes q ys) same c.1) (subst (λ (q : ℕ). is_in x (q ∷ ys) ≡ true) same b)) [
        | inl d ↦ inl (in_right x (n ∷ []) (m ∷ ms) d)
        | inr e ↦ inr e
      ]
    ]

wrap_not_walked : (o : Option Form) → is_unsettled_wrap o ≡ true → is_walked o ≡ false
wrap_not_walked None u = refl
wrap_not_walked (Some (Wrap c (Tree t))) u = refl
wrap_not_walked (Some (Wrap c (Kept k))) u = refl
wrap_not_walked (Some (Then v e t)) u = absurd (false≢true u)
wrap_not_walked (Some (Side stage)) u = absurd (false≢true u)
wrap_not_walked (Some (Race l r w)) u = absurd (false≢true u)
wrap_not_walked (Some (Join fast sides)) u = absurd (false≢true u)
wrap_not_walked (Some _) u = refl

pub wrap_not_steady : (o : Option Form) → is_unsettled_wrap o ≡ true → is_steady o ≡ true → ⊥
wrap_not_steady (Some (Wrap c content)) u y = false≢true y
wrap_not_steady None u y = false≢true u
wrap_not_steady (Some (Then v e t)) u y = false≢true u
wrap_not_steady (Some (Task t)) u y = false≢true u
wrap_not_steady (Some _) u y = false≢true y

-- a Wrap without outcome isn't evaluated: only what fires may be one
pub wrap_on : (s : State) (n x : ℕ) (fs : List ℕ) → Frames s.world n fs → is_unsettled_wrap (form_at x s.world.nodes) ≡ true → is_in x fs ≡ true → fires s.world.firing x ≡ true
wrap_on s n x [] f u i = absurd (in_none x i)
wrap_on s n x (m ∷ ms) f u i = elim (in_either x (m ∷ []) ms i) [
  | inl a ↦ (let same = in_one x m a in subst (λ (q : ℕ). fires s.world.firing q ≡ true) same (second (is_walked (form_at m s.world.nodes)) (fires s.world.firing m) (wrap_not_walked (form_at m s.world.nodes) (subst (λ (q : ℕ). is_unsettled_wrap (form_at q s.world.nodes) ≡ true) (sym same) u)) f.3))
  | inr b ↦ wrap_on s m x ms f.4 u b
]
  where
    second : (a b : Bool) → a ≡ false → (a || b) ≡ true → b ≡ true
    second true b e h = absurd (false≢true (sym e))
    second false b e h = h

pub fires_is : (o : Option ℕ) (x : ℕ) → fires o x ≡ true → (f : ℕ) × (o ≡ Some f) × (f ≡ x)
fires_is None x e = absurd (false≢true e)
fires_is (Some f) x e = (f, refl, sym (same_number f x e))
