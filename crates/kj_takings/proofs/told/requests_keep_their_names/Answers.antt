use Rattle.kj_takings.proofs.ToldLaws.{requests_after, begins_new, stops_live}
use Rattle.kj_takings.proofs.told.requests_keep_their_names.Goals as goal

pub returns-clause-after : goal.returns-clause-after
returns-clause-after c = requests_after

pub returns-clause-new : goal.returns-clause-new
returns-clause-new c = begins_new

pub returns-clause-stopped : goal.returns-clause-stopped
returns-clause-stopped c = stops_live
