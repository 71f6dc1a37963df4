use Rattle.kj_takings.proofs.Beside.{new_alike, alike_itself, states_back}
use Rattle.kj_takings.proofs.taking.states_are_alike.Goals as goal

pub returns-clause-start : goal.returns-clause-start
returns-clause-start c = new_alike

pub returns-clause-itself : goal.returns-clause-itself
returns-clause-itself c = alike_itself

pub returns-clause-back : goal.returns-clause-back
returns-clause-back c = states_back
