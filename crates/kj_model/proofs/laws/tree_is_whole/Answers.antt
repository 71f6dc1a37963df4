use Rattle.kj_model.proofs.Deep.{same_from}
use Rattle.kj_model.proofs.laws.tree_is_whole.Goals as goal

pub returns : goal.returns
returns c = same_from
