use Rattle.kj_takings.proofs.Beside.{steps_alike, same_record, same_replies}
use Rattle.kj_takings.proofs.taking.takings_change_no_run.Goals as goal

pub returns-clause-runs : goal.returns-clause-runs
returns-clause-runs c = same_record

pub returns-clause-replies : goal.returns-clause-replies
returns-clause-replies c = same_replies

pub returns-clause-states : goal.returns-clause-states
returns-clause-states c = steps_alike
