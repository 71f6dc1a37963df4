use Rattle.executor_tests.specs.Callers.{IsIdle}
use Rattle.executor_tests.proofs.threads.watch_each.Given as goal

abbrev pub invariant-loop-i : goal.invariant-loop-i
invariant-loop-i g l = IsIdle l.executor.lock l.pass
