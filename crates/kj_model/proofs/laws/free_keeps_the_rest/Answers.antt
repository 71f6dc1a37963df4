use Rattle.kj_model.proofs.Falling.{node_frees}
use Rattle.kj_model.proofs.laws.free_keeps_the_rest.Goals as goal

pub returns : goal.returns
returns c = node_frees
