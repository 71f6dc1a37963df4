use Rattle.kj_takings.proofs.ToldLaws.{new_is_reached, next_is_reached}
use Rattle.kj_takings.proofs.ToldLoops.{reached_tells, reached_spent, reached_kept}
use Rattle.kj_takings.proofs.told.reached_loops_tell_once.Goals as goal

pub returns-clause-start : goal.returns-clause-start
returns-clause-start c = new_is_reached

pub returns-clause-step : goal.returns-clause-step
returns-clause-step c = next_is_reached

pub returns-clause-listed : goal.returns-clause-listed
returns-clause-listed c = reached_tells

pub returns-clause-spent : goal.returns-clause-spent
returns-clause-spent c = reached_spent

pub returns-clause-kept : goal.returns-clause-kept
returns-clause-kept c = reached_kept
