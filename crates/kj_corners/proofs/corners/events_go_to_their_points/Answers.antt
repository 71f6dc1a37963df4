-- Each log is what the definitions compute.
use Rattle.std.specs.Prelude.{refl}
use Rattle.std.specs.Fmt.{digits}
use Rattle.kj_model.specs.Free.{free_to}
use Rattle.kj_model.specs.Value.{value_to}
use Rattle.kj_corners.proofs.corners.events_go_to_their_points.Goals as goal

pub returns-clause-disarmed_at_the_first_point : goal.returns-clause-disarmed_at_the_first_point
unfolding digits free_to value_to
returns-clause-disarmed_at_the_first_point c = refl

pub returns-clause-disarmed_at_the_second_point : goal.returns-clause-disarmed_at_the_second_point
unfolding digits free_to value_to
returns-clause-disarmed_at_the_second_point c = refl

pub returns-clause-hub_arms_its_branches_first : goal.returns-clause-hub_arms_its_branches_first
unfolding digits free_to value_to
returns-clause-hub_arms_its_branches_first c = refl

pub returns-clause-no_rewind_after_a_value : goal.returns-clause-no_rewind_after_a_value
unfolding digits free_to value_to
returns-clause-no_rewind_after_a_value c = refl
