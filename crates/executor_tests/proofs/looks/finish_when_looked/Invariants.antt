use Rattle.executor_tests.specs.Callers.{IsIdleTarget}
use Rattle.executor_tests.proofs.looks.finish_when_looked.Given as goal

abbrev pub invariant-loop-round : goal.invariant-loop-round
invariant-loop-round g l = IsIdleTarget l.executor.lock l.pass
