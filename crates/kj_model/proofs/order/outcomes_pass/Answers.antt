-- Each log is what the definitions compute.
use Rattle.std.specs.Prelude.{refl}
use Rattle.std.specs.Fmt.{digits}
use Rattle.kj_model.specs.Free.{free_to}
use Rattle.kj_model.specs.Value.{value_to}
use Rattle.kj_model.proofs.order.outcomes_pass.Goals as goal

pub returns-clause-bodies_by_run : goal.returns-clause-bodies_by_run
unfolding digits free_to value_to
returns-clause-bodies_by_run c = refl

pub returns-clause-dropped_fulfiller : goal.returns-clause-dropped_fulfiller
unfolding digits free_to value_to
returns-clause-dropped_fulfiller c = refl

pub returns-clause-exception_passes : goal.returns-clause-exception_passes
unfolding digits free_to value_to
returns-clause-exception_passes c = refl

pub returns-clause-eager_keeps : goal.returns-clause-eager_keeps
unfolding digits free_to value_to
returns-clause-eager_keeps c = refl

pub returns-clause-settled_once : goal.returns-clause-settled_once
unfolding digits free_to value_to
returns-clause-settled_once c = refl
