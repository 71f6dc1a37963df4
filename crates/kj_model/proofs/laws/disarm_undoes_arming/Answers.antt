use Rattle.kj_model.proofs.Undone.{undone}
use Rattle.kj_model.proofs.laws.disarm_undoes_arming.Goals as goal

pub returns : goal.returns
returns c = undone
