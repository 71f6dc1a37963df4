use Rattle.kj_model.proofs.Apart.{stand_apart}
use Rattle.kj_model.proofs.laws.owned_trees_stand_apart.Goals as goal

pub returns : goal.returns
returns c = stand_apart
