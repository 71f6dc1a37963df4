use Rattle.std.proofs.Common.{refl}
use Rattle.kj_model.specs.Free.{free_to}
use Rattle.kj_model.specs.Value.{value_to}
use Rattle.kj_takings.proofs.Worked.{worked_fit, none_after}
use Rattle.kj_takings.proofs.taking.takings_fit_a_worked_case.Goals as goal

pub returns-clause-fits : goal.returns-clause-fits
returns-clause-fits c = worked_fit

pub returns-clause-settled : goal.returns-clause-settled
returns-clause-settled c = none_after

pub returns-clause-runs : goal.returns-clause-runs
unfolding free_to value_to
returns-clause-runs c = refl
