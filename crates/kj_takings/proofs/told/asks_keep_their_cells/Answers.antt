use Rattle.kj_takings.proofs.ToldLaws.{cell_stays, ask_taken, taken_stays, reply_goes}
use Rattle.kj_takings.proofs.told.asks_keep_their_cells.Goals as goal

pub returns-clause-stays : goal.returns-clause-stays
returns-clause-stays c = cell_stays

pub returns-clause-told : goal.returns-clause-told
returns-clause-told c = ask_taken

pub returns-clause-taken : goal.returns-clause-taken
returns-clause-taken c = taken_stays

pub returns-clause-replied : goal.returns-clause-replied
returns-clause-replied c = reply_goes
