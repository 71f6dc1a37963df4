use Rattle.std.proofs.Common.{arith, ap, length}
use Rattle.executor_core.specs.Acts.{Desk}
use Rattle.executor_core.proofs.Ends.{requests_within}
use Rattle.xthread.proofs.guarded.Guarded.submitted.Goals as goal

pub overflow_cast-result : goal.overflow_cast-result
overflow_cast-result g c = let w = requests_within _ _ c.self.invariant.legal in let b = ap (λ (d : Desk). length d.requests) c.self.invariant.board_is in let p = c.self.invariant.stock.0 in let l = c.self.invariant.small in let n = c.len.ensures in omega arith
