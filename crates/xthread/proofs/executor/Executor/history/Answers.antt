use Rattle.std.proofs.Common.{subst}
use Rattle.executor_core.specs.Histories.{Legal}
use Rattle.executor_core.proofs.Legal.{closed_settled}
use Rattle.xthread.proofs.executor.Executor.history.Goals as goal

pub returns-clause-settled : goal.returns-clause-settled
returns-clause-settled g c = λ closed. let limit = c.close.ensures.constant in let legal = subst (λ n. Legal n c.into_entries.result) limit c.into_entries.ensures.legal in closed_settled _ _ legal closed
