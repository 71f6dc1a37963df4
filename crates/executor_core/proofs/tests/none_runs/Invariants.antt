use Rattle.std.proofs.Common.{◌≡◌, ℕ, ◌<◌, false, Some}
use Rattle.std.specs.Prelude.{slice_get}
use Rattle.executor_core.specs.declared.request.Request.{Request}
use Rattle.executor_core.specs.Acts.{running_state}
use Rattle.executor_core.proofs.tests.none_runs.Given as goal

abbrev pub invariant-loop-i : goal.invariant-loop-i
invariant-loop-i l = (k : ℕ) (q : Request) → k < l.i → slice_get l.all k ≡ Some q → running_state q.state ≡ false
