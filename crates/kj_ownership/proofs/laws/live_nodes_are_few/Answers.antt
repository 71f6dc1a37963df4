use Rattle.kj_ownership.proofs.Sizes.{live_are_few}
use Rattle.kj_ownership.proofs.laws.live_nodes_are_few.Goals as goal

pub returns : goal.returns
returns c = live_are_few
