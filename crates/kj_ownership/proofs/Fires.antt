-- An Eager that fires keeps what a world keeps, where each command does.
use Rattle.std.proofs.Common.{◌≡◌, inl, ℕ, [], ◌∷◌, Bool, true, false, Option, None, Some, refl, sym, ap, ◌∙◌, subst, ◌||◌}
use Rattle.std.specs.Prelude.{nat_eq, is_some, option_to_list}
use Rattle.std.proofs.Common.{arith}
use Rattle.std.proofs.lemmas.Bool.Decides.{nat_tests}
use Rattle.kj_base.specs.declared.outcomes.Outcome.{Outcome}
use Rattle.kj_base.specs.Queue.{DepthFirst}
use Rattle.kj_model.specs.Nodes.{Form, Tree, Kept, Eager, form_at, parts_found, is_in}
use Rattle.kj_model.specs.World.{State, Setting, depth_of}
use Rattle.kj_model.specs.Changes.{silent, put}
use Rattle.kj_model.specs.Listening.{announced}
use Rattle.kj_model.specs.Value.{value, freed}
use Rattle.kj_model.specs.Fire.{kept_at, kept_then, fire_form}
use Rattle.kj_ownership.specs.Owners.{is_live, owns, is_hub_form}
use Rattle.kj_ownership.specs.Standing.{Owned}
use Rattle.kj_ownership.specs.Stems.{is_walked, fires, Frames}
use Rattle.kj_ownership.specs.Shapes.{Shaped}
use Rattle.kj_ownership.proofs.Shapes.{empty_suits}
use Rattle.kj_model.proofs.Members.{in_self}
use Rattle.kj_model.proofs.Once.{both_ways, false_by}
use Rattle.kj_ownership.proofs.Stays.{hub_unowned}
use Rattle.kj_ownership.proofs.Commands.{tree_freed}
use Rattle.kj_ownership.proofs.Changed.{announced_standing}
use Rattle.kj_ownership.proofs.Frames.{framed_tended}
use Rattle.kj_ownership.proofs.Evaluates.{CommandsKeep, value_keeps, Clears, tree_cleared, kept_form}

-- the tree of the node that fires
or_fires : (b : Bool) (f : Option ℕ) (n : ℕ) → f ≡ Some n → (b || fires f n) ≡ true
or_fires true f n e = refl
or_fires false f n e = ap (λ o. fires o n) e ∙ self n
  where
    self : (n : ℕ) → nat_eq n n ≡ true
    self n = grind (arith, nat_tests)

pub fired_frames : (s : State) (n t : ℕ) → Owned s → s.world.firing ≡ Some n → is_live n s.world.nodes ≡ true → owns n t s.world.nodes ≡ true → is_live t s.world.nodes ≡ true → Frames s.world t (n ∷ [])
fired_frames s n t o fires_n live own t_live = (t_live, own, false_by (is_hub_form (form_at t s.world.nodes)) (λ h. both_ways (owns n t s.world.nodes) own (hub_unowned [] s.world t n o.placed h)), or_fires (is_walked (form_at n s.world.nodes)) s.world.firing n fires_n, inl (fires_n, live))

eager_clears : (t : ℕ) (o : Outcome) → Clears (Eager (Tree t)) (Eager (Kept o)) t
eager_clears t o = record { parts = refl; none = refl; old_hub = refl; new_hub = refl; branch = λ h. refl; suits = empty_suits (Eager (Tree t)) (Eager (Kept o)) (record { tree = refl; link = refl; side = refl; task = refl; request = λ n. refl; ended = λ h. h }) refl refl }

-- its outcome is kept
eager_kept : (n t : ℕ) (o : Option Outcome) (s : State) → Owned s → Shaped s.world → Frames s.world n [] → form_at n s.world.nodes ≡ Some (Eager (Tree t)) → Owned (kept_then (announced DepthFirst n) n t o s)
eager_kept n t None s ow w f at = ow
eager_kept n t (Some o) s ow w f at =
    let c = tree_cleared s n t [] (Eager (Tree t)) (Eager (Kept o)) ow w f at (eager_clears t o) in
    let td = framed_tended [] [] [] s n [] ow f in
    let own : owns n t s.world.nodes ≡ true = ap (λ (x : Option Form). is_in t (parts_found x)) at ∙ in_self t [] in
    let tf = tree_freed (option_to_list s.world.firing) [] [] s n t ow td.0 own in
    let at1 : form_at n (freed t s).world.nodes ≡ Some (Eager (Tree t)) = tf.form (Eager (Tree t)) refl at in
    subst (λ (x : Option Form). Owned (silent (λ w. announced DepthFirst n (kept_at n o x w)) (freed t s))) (sym at1)
    (announced_standing DepthFirst n [] [] [] (silent (put n (Eager (Kept o))) (freed t s)) c.0.owned)

pub eager_fires : (setting : Setting) (n t : ℕ) (s : State) → CommandsKeep setting → Owned s → Shaped s.world → s.world.firing ≡ Some n → form_at n s.world.nodes ≡ Some (Eager (Tree t)) → Owned (fire_form setting n (Some (Eager (Tree t))) s)
eager_fires setting n t s keep o w fires_n at =
    let live : is_live n s.world.nodes ≡ true = ap is_some at in
    let own : owns n t s.world.nodes ≡ true = ap (λ (x : Option Form). is_in t (parts_found x)) at ∙ in_self t [] in
    let r = value setting t s in
    let e = value_keeps setting (depth_of s.world) keep t s (n ∷ []) o w (inl (fires_n, live)) (λ t_live. fired_frames s n t o fires_n live own t_live) in
    eager_kept n t r.1 r.0 e.owned e.shaped e.rest (kept_form s r.0 n [] (Eager (Tree t)) refl refl at e)
