-- Each is what the definitions compute.
use Rattle.std.specs.Prelude.{refl}
use Rattle.std.specs.Fmt.{digits}
use Rattle.kj_model.specs.Free.{free_to}
use Rattle.kj_model.specs.Value.{value_to}
use Rattle.kj_corners.proofs.arenas.sharing_scripts_have_their_logs.Goals as goal

pub returns-clause-loser_is_disarmed : goal.returns-clause-loser_is_disarmed
unfolding digits free_to value_to
returns-clause-loser_is_disarmed c = refl

pub returns-clause-loser_fires_without_effect : goal.returns-clause-loser_fires_without_effect
unfolding digits free_to value_to
returns-clause-loser_fires_without_effect c = refl

pub returns-clause-loser_takes_the_hub : goal.returns-clause-loser_takes_the_hub
unfolding digits free_to value_to
returns-clause-loser_takes_the_hub c = refl

pub returns-clause-all_in_order : goal.returns-clause-all_in_order
unfolding digits free_to value_to
returns-clause-all_in_order c = refl

pub returns-clause-all_ends_every_part : goal.returns-clause-all_ends_every_part
unfolding digits free_to value_to
returns-clause-all_ends_every_part c = refl

pub returns-clause-fast_ends_early : goal.returns-clause-fast_ends_early
unfolding digits free_to value_to
returns-clause-fast_ends_early c = refl

pub returns-clause-fast_goes_on : goal.returns-clause-fast_goes_on
unfolding digits free_to value_to
returns-clause-fast_goes_on c = refl

pub returns-clause-too_many_words : goal.returns-clause-too_many_words
unfolding digits free_to value_to
returns-clause-too_many_words c = refl

pub returns-clause-joins_of_none : goal.returns-clause-joins_of_none
unfolding digits free_to value_to
returns-clause-joins_of_none c = refl

pub returns-clause-branches_share : goal.returns-clause-branches_share
unfolding digits free_to value_to
returns-clause-branches_share c = refl

pub returns-clause-closing_drops_references : goal.returns-clause-closing_drops_references
unfolding digits free_to value_to
returns-clause-closing_drops_references c = refl

pub returns-clause-hub_that_fires_stays : goal.returns-clause-hub_that_fires_stays
unfolding digits free_to value_to
returns-clause-hub_that_fires_stays c = refl

pub returns-clause-exception_to_each_branch : goal.returns-clause-exception_to_each_branch
unfolding digits free_to value_to
returns-clause-exception_to_each_branch c = refl

pub returns-clause-hub_over_a_given_promise : goal.returns-clause-hub_over_a_given_promise
unfolding digits free_to value_to
returns-clause-hub_over_a_given_promise c = refl

pub returns-clause-hub_holds_its_branch : goal.returns-clause-hub_holds_its_branch
unfolding digits free_to value_to
returns-clause-hub_holds_its_branch c = refl

pub returns-clause-hub_holds_what_fires : goal.returns-clause-hub_holds_what_fires
unfolding digits free_to value_to
returns-clause-hub_holds_what_fires c = refl

pub returns-clause-hub_fires_and_loses_its_branch : goal.returns-clause-hub_fires_and_loses_its_branch
unfolding digits free_to value_to
returns-clause-hub_fires_and_loses_its_branch c = refl

pub returns-clause-hub_holds_the_cancelled : goal.returns-clause-hub_holds_the_cancelled
unfolding digits free_to value_to
returns-clause-hub_holds_the_cancelled c = refl
