use Rattle.kj_paths.proofs.Rows.{slots_enough}
use Rattle.kj_paths.proofs.laws.arenas_have_slots_enough.Goals as goal

pub returns : goal.returns
returns c = slots_enough
