use Rattle.kj_takings.proofs.ToldLaws.{ask_leaves, end_leaves, cell_leaves, end_had_ended, end_goes, cell_goes, no_ask, no_end, no_cell}
use Rattle.kj_takings.proofs.told.what_is_taken_was_listed.Goals as goal

pub returns-clause-ask : goal.returns-clause-ask
returns-clause-ask c = ask_leaves

pub returns-clause-end : goal.returns-clause-end
returns-clause-end c = end_leaves

pub returns-clause-abandoned : goal.returns-clause-abandoned
returns-clause-abandoned c = cell_leaves

pub returns-clause-end_was : goal.returns-clause-end_was
returns-clause-end_was c = end_had_ended

pub returns-clause-end_goes : goal.returns-clause-end_goes
returns-clause-end_goes c = end_goes

pub returns-clause-cell_goes : goal.returns-clause-cell_goes
returns-clause-cell_goes c = cell_goes

pub returns-clause-no_ask : goal.returns-clause-no_ask
returns-clause-no_ask c = no_ask

pub returns-clause-no_end : goal.returns-clause-no_end
returns-clause-no_end c = no_end

pub returns-clause-no_cell : goal.returns-clause-no_cell
returns-clause-no_cell c = no_cell
