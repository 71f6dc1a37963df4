use Rattle.count_lock.specs.Passes.{IsSamePass}
use Rattle.executor_tests.specs.Callers.{IsIdleTarget}
use Rattle.executor_tests.proofs.target.serve.Given as goal

abbrev pub invariant-loop : goal.invariant-loop
invariant-loop g l = IsSamePass l.initial.pass l.pass × IsIdleTarget l.executor.lock l.pass
