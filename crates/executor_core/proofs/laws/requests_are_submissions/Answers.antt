use Rattle.executor_core.proofs.Legal.{requests_count, there_where_submitted}
use Rattle.executor_core.proofs.laws.requests_are_submissions.Goals as goal

pub returns-clause-count : goal.returns-clause-count
returns-clause-count c = requests_count

pub returns-clause-each : goal.returns-clause-each
returns-clause-each c = there_where_submitted
