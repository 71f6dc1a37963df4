use Rattle.kj_takings.proofs.Listeners.{listener_ready}
use Rattle.kj_takings.proofs.arming.listeners_of_ready_trees.Goals as goal

pub returns : goal.returns
returns c = listener_ready
