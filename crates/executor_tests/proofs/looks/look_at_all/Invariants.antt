use Rattle.executor_tests.specs.Callers.{IsIdle}
use Rattle.executor_tests.proofs.looks.look_at_all.Given as goal

abbrev pub invariant-loop : goal.invariant-loop
invariant-loop g l = IsIdle l.executor.lock l.pass
