use Rattle.kj_takings.proofs.Beside.{taking_alike, taking_beside, settled_alike}
use Rattle.kj_takings.proofs.taking.takings_change_nothing_else.Goals as goal

pub returns-clause-left : goal.returns-clause-left
returns-clause-left c = taking_alike

pub returns-clause-right : goal.returns-clause-right
returns-clause-right c = taking_beside

pub returns-clause-settled : goal.returns-clause-settled
returns-clause-settled c = settled_alike
