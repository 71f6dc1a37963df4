use Rattle.executor_core.proofs.Ends.{end_entry, placed_collects}
use Rattle.executor_core.proofs.laws.ends_have_places.Goals as goal

pub returns-clause-entry : goal.returns-clause-entry
returns-clause-entry c = end_entry

pub returns-clause-collected : goal.returns-clause-collected
returns-clause-collected c = placed_collects
