use Rattle.kj_takings.proofs.ToldLoops.{asks_once, lost_once}
use Rattle.kj_takings.proofs.told.each_ask_is_told_once.Goals as goal

pub returns-clause-asks : goal.returns-clause-asks
returns-clause-asks c = asks_once

pub returns-clause-abandoned : goal.returns-clause-abandoned
returns-clause-abandoned c = lost_once
