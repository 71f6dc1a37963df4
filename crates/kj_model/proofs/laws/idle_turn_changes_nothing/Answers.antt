use Rattle.kj_model.proofs.Refusals.{idle_same}
use Rattle.kj_model.proofs.laws.idle_turn_changes_nothing.Goals as goal

pub returns : goal.returns
returns c = idle_same
