use Rattle.executor_core.proofs.Own.{outstanding_step, unfinished_step}
use Rattle.executor_core.proofs.laws.entry_opens_or_ends.Goals as goal

pub returns-clause-asked : goal.returns-clause-asked
returns-clause-asked c = outstanding_step

pub returns-clause-run : goal.returns-clause-run
returns-clause-run c = unfinished_step
