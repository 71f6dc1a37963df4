-- Each log is what the definitions compute.
use Rattle.std.specs.Prelude.{refl}
use Rattle.std.specs.Fmt.{digits}
use Rattle.kj_model.specs.Free.{free_to}
use Rattle.kj_model.specs.Value.{value_to}
use Rattle.kj_corners.proofs.corners.lists_come_in_order.Goals as goal

pub returns-clause-newest_wrap_goes_first : goal.returns-clause-newest_wrap_goes_first
unfolding digits free_to value_to
returns-clause-newest_wrap_goes_first c = refl

pub returns-clause-asks_before_ends : goal.returns-clause-asks_before_ends
unfolding digits free_to value_to
returns-clause-asks_before_ends c = refl

pub returns-clause-turns_before_idle : goal.returns-clause-turns_before_idle
unfolding digits free_to value_to
returns-clause-turns_before_idle c = refl
