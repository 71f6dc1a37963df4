-- Each log is what the definitions compute.
use Rattle.std.specs.Prelude.{refl}
use Rattle.std.specs.Fmt.{digits}
use Rattle.kj_model.specs.Free.{free_to}
use Rattle.kj_model.specs.Value.{value_to}
use Rattle.kj_model.proofs.owning.cancelers_end_their_wraps.Goals as goal

pub returns-clause-cancelled_while_armed : goal.returns-clause-cancelled_while_armed
unfolding digits free_to value_to
returns-clause-cancelled_while_armed c = refl

pub returns-clause-newer_wrap_frees_an_older : goal.returns-clause-newer_wrap_frees_an_older
unfolding digits free_to value_to
returns-clause-newer_wrap_frees_an_older c = refl

pub returns-clause-cancelled_in_a_turn : goal.returns-clause-cancelled_in_a_turn
unfolding digits free_to value_to
returns-clause-cancelled_in_a_turn c = refl

pub returns-clause-canceler_dropped : goal.returns-clause-canceler_dropped
unfolding digits free_to value_to
returns-clause-canceler_dropped c = refl
