-- Each log is what the definitions compute.
use Rattle.std.specs.Prelude.{refl}
use Rattle.std.specs.Fmt.{digits}
use Rattle.kj_model.specs.Free.{free_to}
use Rattle.kj_model.specs.Value.{value_to}
use Rattle.kj_model.proofs.owning.dropped_promises_never_run.Goals as goal

pub returns-clause-dropped_ahead_of_the_point : goal.returns-clause-dropped_ahead_of_the_point
unfolding digits free_to value_to
returns-clause-dropped_ahead_of_the_point c = refl

pub returns-clause-dropped_while_armed : goal.returns-clause-dropped_while_armed
unfolding digits free_to value_to
returns-clause-dropped_while_armed c = refl
