use Rattle.executor_core.proofs.Legal.{closed_where_close}
use Rattle.executor_core.proofs.laws.closed_where_a_close_stands.Goals as goal

pub returns : goal.returns
returns c = closed_where_close
