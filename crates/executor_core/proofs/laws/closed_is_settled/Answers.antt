use Rattle.executor_core.proofs.Legal.{closed_settled}
use Rattle.executor_core.proofs.laws.closed_is_settled.Goals as goal

pub returns : goal.returns
returns c = closed_settled
