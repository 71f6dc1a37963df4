-- Each is what the definitions compute.
use Rattle.std.specs.Prelude.{refl}
use Rattle.std.specs.Fmt.{digits}
use Rattle.kj_model.specs.Free.{free_to}
use Rattle.kj_model.specs.Value.{value_to}
use Rattle.kj_corners.proofs.arenas.owning_scripts_have_their_logs.Goals as goal

pub returns-clause-dropped_ahead_of_the_point : goal.returns-clause-dropped_ahead_of_the_point
unfolding digits free_to value_to
returns-clause-dropped_ahead_of_the_point c = refl

pub returns-clause-dropped_while_armed : goal.returns-clause-dropped_while_armed
unfolding digits free_to value_to
returns-clause-dropped_while_armed c = refl

pub returns-clause-empty_before_the_error_step : goal.returns-clause-empty_before_the_error_step
unfolding digits free_to value_to
returns-clause-empty_before_the_error_step c = refl

pub returns-clause-clear_in_the_error_step : goal.returns-clause-clear_in_the_error_step
unfolding digits free_to value_to
returns-clause-clear_in_the_error_step c = refl

pub returns-clause-one_promise_of_emptiness : goal.returns-clause-one_promise_of_emptiness
unfolding digits free_to value_to
returns-clause-one_promise_of_emptiness c = refl

pub returns-clause-cleared_set_is_empty : goal.returns-clause-cleared_set_is_empty
unfolding digits free_to value_to
returns-clause-cleared_set_is_empty c = refl

pub returns-clause-filled_in_the_error_step : goal.returns-clause-filled_in_the_error_step
unfolding digits free_to value_to
returns-clause-filled_in_the_error_step c = refl

pub returns-clause-cancelled_while_armed : goal.returns-clause-cancelled_while_armed
unfolding digits free_to value_to
returns-clause-cancelled_while_armed c = refl

pub returns-clause-newer_wrap_frees_an_older : goal.returns-clause-newer_wrap_frees_an_older
unfolding digits free_to value_to
returns-clause-newer_wrap_frees_an_older c = refl

pub returns-clause-cancelled_in_a_turn : goal.returns-clause-cancelled_in_a_turn
unfolding digits free_to value_to
returns-clause-cancelled_in_a_turn c = refl

pub returns-clause-canceler_dropped : goal.returns-clause-canceler_dropped
unfolding digits free_to value_to
returns-clause-canceler_dropped c = refl

pub returns-clause-clear_is_busy : goal.returns-clause-clear_is_busy
unfolding digits free_to value_to
returns-clause-clear_is_busy c = refl

pub returns-clause-promise_is_busy : goal.returns-clause-promise_is_busy
unfolding digits free_to value_to
returns-clause-promise_is_busy c = refl

pub returns-clause-cancel_is_busy : goal.returns-clause-cancel_is_busy
unfolding digits free_to value_to
returns-clause-cancel_is_busy c = refl
