use Rattle.kj_takings.proofs.Listeners.{announced_ready, listened_ready, settled_ready, built_ready, new_ready}
use Rattle.kj_takings.proofs.arming.what_is_armed_has_a_ready_tree.Goals as goal

pub returns-clause-announced : goal.returns-clause-announced
returns-clause-announced c = announced_ready

pub returns-clause-listened : goal.returns-clause-listened
returns-clause-listened c = listened_ready

pub returns-clause-start : goal.returns-clause-start
returns-clause-start c = new_ready

pub returns-clause-settled : goal.returns-clause-settled
returns-clause-settled c = settled_ready

pub returns-clause-built : goal.returns-clause-built
returns-clause-built c = built_ready
