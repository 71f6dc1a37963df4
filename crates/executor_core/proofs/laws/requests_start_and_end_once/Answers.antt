use Rattle.executor_core.proofs.Legal.{one_start, one_end}
use Rattle.executor_core.proofs.laws.requests_start_and_end_once.Goals as goal

pub returns-clause-start : goal.returns-clause-start
returns-clause-start c = one_start

pub returns-clause-end : goal.returns-clause-end
returns-clause-end c = one_end
