-- Each test is what the definitions compute.
use Rattle.std.specs.Prelude.{refl}
use Rattle.kj_model.specs.Free.{free_to}
use Rattle.kj_model.specs.Trees.{tree_numbers}
use Rattle.kj_model.specs.Value.{value_to}
use Rattle.kj_corners.proofs.corners.corner_scripts_keep_it.Goals as goal

pub returns-clause-disarmed_at_the_first_point : goal.returns-clause-disarmed_at_the_first_point
unfolding free_to tree_numbers value_to
returns-clause-disarmed_at_the_first_point c = refl

pub returns-clause-disarmed_at_the_second_point : goal.returns-clause-disarmed_at_the_second_point
unfolding free_to tree_numbers value_to
returns-clause-disarmed_at_the_second_point c = refl

pub returns-clause-hub_arms_its_branches_first : goal.returns-clause-hub_arms_its_branches_first
unfolding free_to tree_numbers value_to
returns-clause-hub_arms_its_branches_first c = refl

pub returns-clause-no_rewind_after_a_value : goal.returns-clause-no_rewind_after_a_value
unfolding free_to tree_numbers value_to
returns-clause-no_rewind_after_a_value c = refl

pub returns-clause-fast_is_ready_once : goal.returns-clause-fast_is_ready_once
unfolding free_to tree_numbers value_to
returns-clause-fast_is_ready_once c = refl

pub returns-clause-wrap_that_fires_keeps_its_canceler : goal.returns-clause-wrap_that_fires_keeps_its_canceler
unfolding free_to tree_numbers value_to
returns-clause-wrap_that_fires_keeps_its_canceler c = refl

pub returns-clause-busy_over_a_hub_that_holds_it : goal.returns-clause-busy_over_a_hub_that_holds_it
unfolding free_to tree_numbers value_to
returns-clause-busy_over_a_hub_that_holds_it c = refl

pub returns-clause-newest_wrap_goes_first : goal.returns-clause-newest_wrap_goes_first
unfolding free_to tree_numbers value_to
returns-clause-newest_wrap_goes_first c = refl

pub returns-clause-asks_before_ends : goal.returns-clause-asks_before_ends
unfolding free_to tree_numbers value_to
returns-clause-asks_before_ends c = refl

pub returns-clause-turns_before_idle : goal.returns-clause-turns_before_idle
unfolding free_to tree_numbers value_to
returns-clause-turns_before_idle c = refl
