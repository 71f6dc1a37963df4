-- Cancel and the drop of a canceler.
use Rattle.std.proofs.Common.{◌≡◌, inl, inr, ℕ, ◌≤◌, List, [], ◌∷◌, Bool, true, false, Option, None, Some, arith, refl, sym, ap, ◌∙◌, subst, ◌&&◌}
use Rattle.std.specs.Prelude.{is_some, option_to_list, reverse}
use Rattle.std.proofs.lemmas.Bool.{false≢true}
use Rattle.kj_base.specs.Queue.{DepthFirst}
use Rattle.kj_model.specs.Outcomes.{cancelled}
use Rattle.kj_model.specs.Nodes.{Form, Tree, Kept, Wrap, form_at, is_in}
use Rattle.kj_model.specs.World.{World, State, Held, Canceler, held_at, depth_of}
use Rattle.kj_model.specs.Changes.{silent, put, unnamed}
use Rattle.kj_model.specs.Free.{Holding, free, usual}
use Rattle.kj_model.specs.Effects.{wrap_cancelled, each_cancelled, canceled, wraps_of, disarmed_node}
use Rattle.kj_model.specs.Apply.{is_unsettled_wrap, settles_wrap}
use Rattle.kj_model.specs.Framed.{times, stripped}
use Rattle.kj_ownership.specs.Owners.{is_live, owns}
use Rattle.kj_ownership.specs.Standing.{Climbs, Owned}
use Rattle.kj_ownership.specs.Stems.{Begins, Frames, is_steady}
use Rattle.kj_ownership.specs.Shapes.{Shaped}
use Rattle.kj_model.proofs.Members.{in_either, in_one, in_self, in_none}
use Rattle.kj_model.proofs.Once.{both_ways, false_by}
use Rattle.kj_model.proofs.Falling.{node_frees}
use Rattle.kj_ownership.proofs.Stays.{unowned, in_times, out_times}
use Rattle.kj_ownership.proofs.Closing.{times_reverse}
use Rattle.kj_ownership.proofs.Commands.{tended_open, owned_comes}
use Rattle.kj_ownership.proofs.Frames.{awaited_count}
use Rattle.kj_ownership.proofs.Cancels.{wrap_any}
use Rattle.kj_ownership.proofs.Evaluates.{turn_both}
use Rattle.kj_ownership.proofs.Reached.{announced_only, reached_unnamed}
use Rattle.kj_ownership.proofs.Walks.{Went, went_both, went_reached, Walks, walks_both, walks_reached, walks_steady, shaped_free_to, turn_free_to, reached_here}
use Rattle.kj_ownership.proofs.Calm.{Tells}
use Rattle.kj_ownership.proofs.Cancelling.{IsOff, wrap_tended, wrap_cancels, wrap_shaped, wrap_same, owns_tree, walks_list, wraps_tell, above_or_on, wrap_not_steady, wrap_on, fires_is}

-- the same numbers, newest first
pub in_reverse : (x : ℕ) (xs : List ℕ) → is_in x (reverse xs) ≡ true → is_in x xs ≡ true
in_reverse x xs i = decide (is_in x xs) refl
  where
    clash : (a b : ℕ) → a ≡ b → b ≡ 0 → 1 ≤ a → ⊥
    clash a b e z o = omega (arith, e, z, o)

    decide : (d : Bool) → is_in x xs ≡ d → is_in x xs ≡ true
    decide true e = e
    decide false e = absurd (clash (times x (reverse xs)) (times x xs) (times_reverse x xs) (out_times x xs e) (in_times x (reverse xs) i))

settled_of : (a b : Bool) → (a && b) ≡ false → a ≡ true → b ≡ false
settled_of true b e h = e
settled_of false b e h = absurd (false≢true h)

-- each Wrap without outcome of the canceler is off the climb, where the cancel isn't busy
cancel_off : (canceler : ℕ) (s : State) (n : ℕ) (fs : List ℕ) → Owned s → Frames s.world n fs → is_steady (form_at n s.world.nodes) ≡ true → ((f : ℕ) → s.world.firing ≡ Some f → Tells f s (canceled (Holding []) canceler s) → ⊥) → ((f : ℕ) → s.world.firing ≡ Some f → settles_wrap f canceler s.world ≡ false)
    → (x : ℕ) → is_in x (reverse (wraps_of (held_at canceler s.world.names))) ≡ true → is_unsettled_wrap (form_at x s.world.nodes) ≡ true → IsOff x n s
cancel_off canceler s n fs st f y calm settle x i u ys c = false_by (is_in x (n ∷ ys)) (λ j. elim (above_or_on s n x fs ys st f c j) [ inl k ↦ on k | inr r ↦ above r.0 r.1 r.2 r.3 r.4 ])
  where
    wraps : List ℕ
    wraps = wraps_of (held_at canceler s.world.names)

    settled : (g : ℕ) → s.world.firing ≡ Some g → is_in g (reverse (wraps_of (held_at canceler s.world.names))) ≡ true → is_unsettled_wrap (form_at g s.world.nodes) ≡ false
    settled g fires k = settled_of (is_in g (wraps_of (held_at canceler s.world.names))) (is_unsettled_wrap (form_at g s.world.nodes)) (settle g fires) (in_reverse g (wraps_of (held_at canceler s.world.names)) k)

    on : is_in x (n ∷ fs) ≡ true → ⊥
    on k = elim (in_either x (n ∷ []) fs k) [
      | inl a ↦ wrap_not_steady (form_at x s.world.nodes) u (subst (λ (q : ℕ). is_steady (form_at q s.world.nodes) ≡ true) (in_one x n a) y)
      | inr b ↦ (let r = fires_is s.world.firing x (wrap_on s n x fs f u b) in both_ways (is_unsettled_wrap (form_at x s.world.nodes)) u (subst (λ (q : ℕ). is_unsettled_wrap (form_at q s.world.nodes) ≡ false) r.2 (settled r.0 r.1 (subst (λ (q : ℕ). is_in q (reverse (wraps_of (held_at canceler s.world.names))) ≡ true) (sym r.2) i))))
    ]

    above : (b : ℕ) → Begins s.world b → (zs : List ℕ) → Climbs s.world.nodes b zs → is_in x zs ≡ true → ⊥
    above b (inl g) zs cl k = calm b g.0 (wraps_tell (reverse (wraps_of (held_at canceler s.world.names))) s b x zs st g.1 cl i k u (settled b g.0))
    above b (inr g) [] cl k = in_none x k
    above b (inr g) (z ∷ zs) cl k = let a = awaited_count s b g.2 in both_ways (owns z b s.world.nodes) cl.0 (unowned [] s.world b z st.placed g.1 (omega (arith, a)))

pub canceled_walks : (canceler : ℕ) (s : State) (n : ℕ) (fs : List ℕ) → Owned s → Shaped s.world → Frames s.world n fs → is_steady (form_at n s.world.nodes) ≡ true → ((f : ℕ) → s.world.firing ≡ Some f → Tells f s (canceled (Holding []) canceler s) → ⊥) → ((f : ℕ) → s.world.firing ≡ Some f → settles_wrap f canceler s.world ≡ false) → Walks [] [] s (canceled (usual s.world) canceler s) n fs
canceled_walks canceler s n fs st sh f y calm settle = walks_list (reverse (wraps_of (held_at canceler s.world.names))) s n fs s.world.firing refl st sh f (cancel_off canceler s n fs st f y calm settle)

-- where nothing is evaluated
went_wrap : (p : Option Form) (gs : List ℕ) (x : ℕ) (s : State) → form_at x s.world.nodes ≡ p → Owned s → Shaped s.world → Went [] [] s (wrap_cancelled (Holding gs) x p s)
went_wrap (Some (Wrap c (Tree t))) gs x s at st sh =
    let live : is_live x s.world.nodes ≡ true = ap is_some at in
    let cx = st.placed.climbs x live in
    let opens = tended_open [] [] [] (x ∷ gs) s x st (wrap_tended gs x s cx.0 live cx.1) in
    let w = wrap_cancels gs x c t s (x ∷ cx.0) at st opens (owned_comes (Holding (x ∷ gs)) [] [] [] s x t cx.0 st live (owns_tree x c t s.world.nodes at) cx.1) (in_self x cx.0) in
    let s1 = free (Holding (x ∷ gs)) t s in
    record {
      standing = wrap_any (Some (Wrap c (Tree t))) gs x [] [] s at st;
      shaped = wrap_shaped x c t s1.world w.at (shaped_free_to (Holding (x ∷ gs)) (depth_of s.world) t s sh);
      same = turn_both s.world s1.world (wrap_cancelled (Holding gs) x (Some (Wrap c (Tree t))) s).world (turn_free_to (Holding (x ∷ gs)) (depth_of s.world) t s) (wrap_same x c s1.world);
    }
went_wrap (Some (Wrap c (Kept k))) gs x s at st sh = went_reached [] [] s s (reached_here [] [] [] s st sh)
went_wrap None gs x s at st sh = went_reached [] [] s s (reached_here [] [] [] s st sh)
went_wrap (Some _) gs x s at st sh = went_reached [] [] s s (reached_here [] [] [] s st sh)

went_wraps : (xs gs : List ℕ) (s : State) → Owned s → Shaped s.world → Went [] [] s (each_cancelled (Holding gs) xs s)
went_wraps [] gs s st sh = went_reached [] [] s s (reached_here [] [] [] s st sh)
went_wraps (x ∷ xs) gs s st sh =
    let t = wrap_cancelled (Holding gs) x (form_at x s.world.nodes) s in
    let a = went_wrap (form_at x s.world.nodes) gs x s refl st sh in
    went_both [] [] [] [] s t (each_cancelled (Holding gs) xs t) a (went_wraps xs gs t a.standing a.shaped)

pub canceled_went : (gs : List ℕ) (canceler : ℕ) (s : State) → Owned s → Shaped s.world → Went [] [] s (canceled (Holding gs) canceler s)
canceled_went gs canceler s st sh = went_wraps (reverse (wraps_of (held_at canceler s.world.names))) gs s st sh

-- a canceler stays one
wrap_at : (p : Option Form) (gs : List ℕ) (x c : ℕ) (s : State) → stripped (held_at c (wrap_cancelled (Holding gs) x p s).world.names) ≡ stripped (held_at c s.world.names)
wrap_at (Some (Wrap d (Tree t))) gs x c s =
    let s1 = free (Holding (x ∷ gs)) t s in
    ap (λ (w : World). stripped (held_at c w.names)) (announced_only DepthFirst x (put x (Wrap d (Kept cancelled)) (disarmed_node x s1.world))).same ∙ (node_frees (Holding (x ∷ gs)) (depth_of s.world) t s).frame.at c
wrap_at (Some (Wrap d (Kept k))) gs x c s = refl
wrap_at None gs x c s = refl
wrap_at (Some _) gs x c s = refl

wraps_at : (xs gs : List ℕ) (c : ℕ) (s : State) → stripped (held_at c (each_cancelled (Holding gs) xs s).world.names) ≡ stripped (held_at c s.world.names)
wraps_at [] gs c s = refl
wraps_at (x ∷ xs) gs c s = wraps_at xs gs c (wrap_cancelled (Holding gs) x (form_at x s.world.nodes) s) ∙ wrap_at (form_at x s.world.nodes) gs x c s

abbrev is_one : Option Held → Bool
is_one (Some (Canceler wraps)) = true
is_one other = false

unstrip : (o : Option Held) → stripped o ≡ Some (Canceler []) → (wraps : List ℕ) × (o ≡ Some (Canceler wraps))
unstrip (Some (Canceler wraps)) e = (wraps, refl)
unstrip None e = absurd (false≢true (ap is_one e))
unstrip (Some _) e = absurd (false≢true (ap is_one e))

still_one : (gs : List ℕ) (name : ℕ) (wraps : List ℕ) (s : State) → held_at name s.world.names ≡ Some (Canceler wraps) → (ws : List ℕ) × (held_at name (canceled (Holding gs) name s).world.names ≡ Some (Canceler ws))
still_one gs name wraps s at = unstrip (held_at name (canceled (Holding gs) name s).world.names) (wraps_at (reverse (wraps_of (held_at name s.world.names))) gs name s ∙ ap stripped at)

pub drop_canceler_went : (gs : List ℕ) (name : ℕ) (wraps : List ℕ) (s : State) → held_at name s.world.names ≡ Some (Canceler wraps) → Owned s → Shaped s.world → Went [] [] s (silent (unnamed name) (canceled (Holding gs) name s))
drop_canceler_went gs name wraps s at st sh =
    let t = canceled (Holding gs) name s in
    let a = canceled_went gs name s st sh in
    let h = still_one gs name wraps s at in
    went_both [] [] [] [] s t (silent (unnamed name) t) a (went_reached [] [] t (silent (unnamed name) t) (reached_unnamed name (Canceler h.0) [] [] [] t t h.1 (reached_here [] [] [] t a.standing a.shaped)))

pub drop_canceler_walks : (name : ℕ) (wraps : List ℕ) (s : State) (n : ℕ) (fs : List ℕ) → held_at name s.world.names ≡ Some (Canceler wraps) → Owned s → Shaped s.world → Frames s.world n fs → is_steady (form_at n s.world.nodes) ≡ true → ((f : ℕ) → s.world.firing ≡ Some f → Tells f s (canceled (Holding []) name s) → ⊥) → ((f : ℕ) → s.world.firing ≡ Some f → settles_wrap f name s.world ≡ false) → Walks [] [] s (silent (unnamed name) (canceled (usual s.world) name s)) n fs
drop_canceler_walks name wraps s n fs at st sh f y calm settle =
    let t = canceled (usual s.world) name s in
    let a = canceled_walks name s n fs st sh f y calm settle in
    let h = still_one (option_to_list s.world.firing) name wraps s at in
    walks_both [] [] [] [] s t (silent (unnamed name) t) n fs a (walks_reached [] [] t (silent (unnamed name) t) n fs a.frames (walks_steady [] [] s t n fs a y) (reached_unnamed name (Canceler h.0) [] [] [] t t h.1 (reached_here [] [] [] t a.went.standing a.went.shaped)))
