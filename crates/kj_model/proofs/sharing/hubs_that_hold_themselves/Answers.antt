-- Each log is what the definitions compute.
use Rattle.std.specs.Prelude.{refl}
use Rattle.std.specs.Fmt.{digits}
use Rattle.kj_model.specs.Free.{free_to}
use Rattle.kj_model.specs.Value.{value_to}
use Rattle.kj_model.proofs.sharing.hubs_that_hold_themselves.Goals as goal

pub returns-clause-hub_holds_its_branch : goal.returns-clause-hub_holds_its_branch
unfolding digits free_to value_to
returns-clause-hub_holds_its_branch c = refl

pub returns-clause-hub_holds_what_fires : goal.returns-clause-hub_holds_what_fires
unfolding digits free_to value_to
returns-clause-hub_holds_what_fires c = refl

pub returns-clause-hub_fires_and_loses_its_branch : goal.returns-clause-hub_fires_and_loses_its_branch
unfolding digits free_to value_to
returns-clause-hub_fires_and_loses_its_branch c = refl

pub returns-clause-hub_holds_the_cancelled : goal.returns-clause-hub_holds_the_cancelled
unfolding digits free_to value_to
returns-clause-hub_holds_the_cancelled c = refl
