use Rattle.std.proofs.Common.{All}
use Rattle.executor_tests.specs.Callers.{IsIdle, IsIdleTarget}
use Rattle.kj_bench.proofs.executor.split_many.Given as goal

abbrev pub invariant-loop : goal.invariant-loop
invariant-loop l = IsIdleTarget l.executor.lock l.target × All (λ p. IsIdle l.executor.lock p) l.passes.items
