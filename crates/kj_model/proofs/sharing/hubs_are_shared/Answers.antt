-- Each log is what the definitions compute.
use Rattle.std.specs.Prelude.{refl}
use Rattle.std.specs.Fmt.{digits}
use Rattle.kj_model.specs.Free.{free_to}
use Rattle.kj_model.specs.Value.{value_to}
use Rattle.kj_model.proofs.sharing.hubs_are_shared.Goals as goal

pub returns-clause-branches_share : goal.returns-clause-branches_share
unfolding digits free_to value_to
returns-clause-branches_share c = refl

pub returns-clause-closing_drops_references : goal.returns-clause-closing_drops_references
unfolding digits free_to value_to
returns-clause-closing_drops_references c = refl

pub returns-clause-hub_that_fires_stays : goal.returns-clause-hub_that_fires_stays
unfolding digits free_to value_to
returns-clause-hub_that_fires_stays c = refl

pub returns-clause-exception_to_each_branch : goal.returns-clause-exception_to_each_branch
unfolding digits free_to value_to
returns-clause-exception_to_each_branch c = refl

pub returns-clause-hub_over_a_given_promise : goal.returns-clause-hub_over_a_given_promise
unfolding digits free_to value_to
returns-clause-hub_over_a_given_promise c = refl
