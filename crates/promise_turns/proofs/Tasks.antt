-- A task that left its set, and the error step of that.
use Rattle.std.proofs.Common.{◌≡◌, ℕ, List, [], ◌∷◌, Option, None, Some, arith, ◌∙◌, false, true, refl, sym, ap}
use Rattle.std.specs.Prelude.{nat_eq}
use Rattle.std.proofs.lemmas.Bool.Decides.{nat_tests}
use Rattle.kj_base.specs.declared.outcomes.Outcome.{Outcome}
use Rattle.kj_base.specs.declared.outcomes.Outcome.TheVariants.{Value, Broken}
use Rattle.kj_model.specs.Nodes.{dropped}
use Rattle.kj_model.specs.World.{State, Setting}
use Rattle.kj_model.specs.Value.{Given, chosen, run_step}
use Rattle.kj_model.specs.Fire.{error_run, task_ended, task_stepped}
use Rattle.kj_ownership.proofs.Lacks.{lacked_of, step_leaves}

-- the error step runs on an exception alone
pub ended_is : (setting : Setting) (n : ℕ) (o : Outcome) (error : Option ℕ) (s : State) → task_ended setting n o error s ≡ error_run setting n o (chosen None error o) s
ended_is setting n (Value words) error s = refl
ended_is setting n (Broken exception) error s = refl

-- what is done by what the error step gave
pub stepped_is : (setting : Setting) (n step : ℕ) (o : Outcome) (given : Option Given) (s : State) → (run_step setting false n step o s).1 ≡ given → task_stepped n given (run_step setting false n step o s).0 ≡ error_run setting n o (Some step) s
stepped_is setting n step o given s is = sym (ap (λ (g : Option Given). task_stepped n g (run_step setting false n step o s).0) is)

-- where it gave nothing the loop is stopped
pub step_stops : (setting : Setting) (n step : ℕ) (o : Outcome) (s : State) → (run_step setting false n step o s).1 ≡ None → (run_step setting false n step o s).0.world.stopped ≡ true
step_stops setting n step o s none = let r = run_step setting false n step o s in (lacked_of setting s.world.stopped r.1 r.0 (step_leaves setting false n step o s) none).stopped

only : (n : ℕ) → dropped n (n ∷ []) ≡ []
only n = let same : nat_eq n n ≡ true = grind (arith, nat_tests) in rw same refl

-- a task that was left over alone is so no longer
pub none_over : (n : ℕ) (over left : List ℕ) → over ≡ n ∷ [] → left ≡ dropped n over → left ≡ []
none_over n over left alone is = is ∙ ap (dropped n) alone ∙ only n
