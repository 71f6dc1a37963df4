use Rattle.std.proofs.Common.{All}
use Rattle.executor_tests.specs.Callers.{IsIdle}
use Rattle.xthread.specs.Told.{IsReady}
use Rattle.kj_bench.proofs.executor.check.Given as goal

abbrev pub invariant-loop : goal.invariant-loop
invariant-loop g l = IsReady l.executor.lock l.target × All (λ p. IsIdle l.executor.lock p) l.passes.items
