-- Each log is what the definitions compute.
use Rattle.std.specs.Prelude.{refl}
use Rattle.std.specs.Fmt.{digits}
use Rattle.kj_model.specs.Free.{free_to}
use Rattle.kj_model.specs.Value.{value_to}
use Rattle.kj_model.proofs.owning.sets_own_their_tasks.Goals as goal

pub returns-clause-empty_before_the_error_step : goal.returns-clause-empty_before_the_error_step
unfolding digits free_to value_to
returns-clause-empty_before_the_error_step c = refl

pub returns-clause-clear_in_the_error_step : goal.returns-clause-clear_in_the_error_step
unfolding digits free_to value_to
returns-clause-clear_in_the_error_step c = refl

pub returns-clause-one_promise_of_emptiness : goal.returns-clause-one_promise_of_emptiness
unfolding digits free_to value_to
returns-clause-one_promise_of_emptiness c = refl

pub returns-clause-cleared_set_is_empty : goal.returns-clause-cleared_set_is_empty
unfolding digits free_to value_to
returns-clause-cleared_set_is_empty c = refl

pub returns-clause-filled_in_the_error_step : goal.returns-clause-filled_in_the_error_step
unfolding digits free_to value_to
returns-clause-filled_in_the_error_step c = refl
