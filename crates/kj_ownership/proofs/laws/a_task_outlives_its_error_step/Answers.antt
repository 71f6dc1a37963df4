use Rattle.kj_ownership.proofs.Leaving.{task_leaves, task_stays}
use Rattle.kj_ownership.proofs.laws.a_task_outlives_its_error_step.Goals as goal

pub returns-clause-leaves : goal.returns-clause-leaves
returns-clause-leaves c = task_leaves

pub returns-clause-stays : goal.returns-clause-stays
returns-clause-stays c = task_stays
