-- Each log is what the definitions compute.
use Rattle.std.specs.Prelude.{refl}
use Rattle.std.specs.Fmt.{digits}
use Rattle.kj_model.specs.Free.{free_to}
use Rattle.kj_model.specs.Value.{value_to}
use Rattle.kj_model.proofs.owning.what_fires_is_kept.Goals as goal

pub returns-clause-clear_is_busy : goal.returns-clause-clear_is_busy
unfolding digits free_to value_to
returns-clause-clear_is_busy c = refl

pub returns-clause-promise_is_busy : goal.returns-clause-promise_is_busy
unfolding digits free_to value_to
returns-clause-promise_is_busy c = refl

pub returns-clause-cancel_is_busy : goal.returns-clause-cancel_is_busy
unfolding digits free_to value_to
returns-clause-cancel_is_busy c = refl
