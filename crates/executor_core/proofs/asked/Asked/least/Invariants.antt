use Rattle.std.proofs.Common.{ℕ, heap_len}
use Rattle.executor_core.specs.Asks.{Asks}
use Rattle.executor_core.proofs.asked.Asked.least.Given as goal

abbrev pub invariant-loop-at : goal.invariant-loop-at
invariant-loop-at l = (limit : ℕ) → Asks limit l.all l.initial.self → Asks limit l.all l.self

abbrev pub decreases-loop-at : goal.decreases-loop-at
decreases-loop-at l = heap_len l.self.heap
