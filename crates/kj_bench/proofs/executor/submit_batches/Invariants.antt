use Rattle.std.proofs.Common.{All}
use Rattle.executor_tests.specs.Callers.{IsIdle}
use Rattle.kj_bench.proofs.executor.submit_batches.Given as goal

abbrev pub invariant-loop-i : goal.invariant-loop-i
invariant-loop-i g l = All (λ p. IsIdle l.executor.lock p) l.passes.items
