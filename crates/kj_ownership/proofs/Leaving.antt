-- A Task that fires outlives its error step.
use Rattle.std.proofs.Common.{◌≡◌, inl, ℕ, List, [], ◌∷◌, ◌++◌, true, false, Option, None, Some}
use Rattle.std.proofs.Common.{refl, sym, ap, ◌∙◌}
use Rattle.std.specs.Prelude.{is_some}
use Rattle.std.proofs.lemmas.Bool.{false≢true}
use Rattle.kj_base.specs.declared.outcomes.Outcome.{Outcome}
use Rattle.kj_model.specs.Nodes.{Form, Task, form_at, parts_found, is_in}
use Rattle.kj_model.specs.World.{State, Setting}
use Rattle.kj_model.specs.Changes.{silent, put}
use Rattle.kj_model.specs.Value.{value, freed, run_step}
use Rattle.kj_model.specs.Fire.{set_left}
use Rattle.kj_ownership.specs.Owners.{owns}
use Rattle.kj_ownership.specs.Stems.{is_steady}
use Rattle.kj_ownership.specs.Shapes.{OfEnded, suits}
use Rattle.kj_ownership.specs.Fits.{Fits}
use Rattle.kj_ownership.specs.Firing.{IsFiring, HasLeftSet, task_off}
use Rattle.kj_model.proofs.Members.{in_self}
use Rattle.kj_model.proofs.Once.{false_by}
use Rattle.kj_ownership.proofs.Evaluates.{Evals, tree_cleared, step_keeps, kept_form}
use Rattle.kj_ownership.proofs.Applied.{commands_keep}
use Rattle.kj_ownership.proofs.Outlives.{value_evals, evals_firing}
use Rattle.kj_ownership.proofs.TaskFires.{set_left_is, task_clears}

-- a Task with a tree isn't left over
task_in_place : (n tree : ℕ) (s : State) → IsFiring n s
    → form_at n s.world.nodes ≡ Some (Task (Some tree)) → is_in n s.world.left_over ≡ false
task_in_place n tree s f at = false_by (is_in n s.world.left_over) (λ i.
    let ends = f.shaped.left_over n (ap is_some f.fires) i in
    false≢true (ap (suits OfEnded) (sym at) ∙ ends))

-- its tree was evaluated: it is freed, and the Task leaves its set
freed_leaves : (n tree : ℕ) (s : State) → IsFiring n s
    → form_at n s.world.nodes ≡ Some (Task (Some tree))
    → HasLeftSet n s (silent (set_left n) (silent (put n (Task None)) (freed tree s)))
freed_leaves n tree s f at =
    let here = inl (f.fires, f.live) in
    let old = Task (Some tree) in
    let clears = task_clears tree in
    let c = tree_cleared s n tree [] old (Task None) f.owned f.shaped here at clears in
    let bare = silent (put n (Task None)) (freed tree s) in
    let off = ap (is_in n) c.0.same.left_over ∙ task_in_place n tree s f at in
    let l = set_left_is n bare c.0.owned c.0.shaped c.2 off in
    let fires = l.firing ∙ c.0.same.firing ∙ f.fires in record {
      fires = record { owned = l.owned; shaped = l.shaped; fires = fires; live = ap is_some l.at };
      form = l.at;
      left_over = l.left_over ∙ ap (λ (ns : List ℕ). ns ++ n ∷ []) c.0.same.left_over;
    }

pub task_leaves : (setting : Setting) (n tree : ℕ) (s : State) → Fits setting → IsFiring n s
    → form_at n s.world.nodes ≡ Some (Task (Some tree)) → HasLeftSet n s (task_off setting n tree s)
task_leaves setting n tree s fits f at =
    let own : owns n tree s.world.nodes ≡ true =
    ap (λ (o : Option Form). is_in tree (parts_found o)) at ∙ in_self tree [] in
    let r = (value setting tree s).0 in
    let e = value_evals setting n tree s fits f own in
    let at_r = kept_form s r n [] (Task (Some tree)) refl refl at e in
    let l = freed_leaves n tree r (evals_firing s r n e f) at_r in record {
      fires = l.fires;
      form = l.form;
      left_over = l.left_over ∙ ap (λ (ns : List ℕ). ns ++ n ∷ []) e.same.left_over;
    }

-- a step that runs under it leaves it
step_leaves : (setting : Setting) (n step : ℕ) (input : Outcome) (s u : State) → Fits setting
    → HasLeftSet n s u → HasLeftSet n s (run_step setting false n step input u).0
step_leaves setting n step input s u fits l =
    let r = (run_step setting false n step input u).0 in
    let keep = commands_keep setting fits in
    let here = inl (l.fires.fires, l.fires.live) in
    let steady = ap is_steady l.form in
    let answer = setting.answer u.past step in
    let f = l.fires in
    let e : Evals u r (n ∷ []) =
    step_keeps setting answer n step input u [] keep f.owned f.shaped here steady in
    record {
      fires = evals_firing u r n e l.fires;
      form = kept_form u r n [] (Task None) refl refl l.form e;
      left_over = e.same.left_over ∙ l.left_over;
    }

pub task_stays : (setting : Setting) (n tree step : ℕ) (input : Outcome) (s : State)
    → Fits setting → IsFiring n s → form_at n s.world.nodes ≡ Some (Task (Some tree))
    → HasLeftSet n s (run_step setting false n step input (task_off setting n tree s)).0
task_stays setting n tree step input s fits f at =
    let l = task_leaves setting n tree s fits f at in
    step_leaves setting n step input s (task_off setting n tree s) fits l
