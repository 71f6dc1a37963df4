use Rattle.executor_tests.specs.Callers.{IsIdle}
use Rattle.kj_bench.proofs.executor.submit_many.Given as goal

abbrev pub invariant-loop-i : goal.invariant-loop-i
invariant-loop-i g l = IsIdle l.executor.lock l.pass
