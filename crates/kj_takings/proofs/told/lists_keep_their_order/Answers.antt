use Rattle.kj_takings.proofs.ToldLaws.{asks_stay, ended_stay, abandoned_stay}
use Rattle.kj_takings.proofs.told.lists_keep_their_order.Goals as goal

pub returns-clause-asks : goal.returns-clause-asks
returns-clause-asks c = asks_stay

pub returns-clause-ended : goal.returns-clause-ended
returns-clause-ended c = ended_stay

pub returns-clause-abandoned : goal.returns-clause-abandoned
returns-clause-abandoned c = abandoned_stay
