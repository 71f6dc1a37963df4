-- Each log is what the definitions compute.
use Rattle.std.specs.Prelude.{refl}
use Rattle.std.specs.Fmt.{digits}
use Rattle.kj_model.specs.Free.{free_to}
use Rattle.kj_model.specs.Value.{value_to}
use Rattle.kj_corners.proofs.corners.what_fires_is_busy.Goals as goal

pub returns-clause-wrap_that_fires_keeps_its_canceler : goal.returns-clause-wrap_that_fires_keeps_its_canceler
unfolding digits free_to value_to
returns-clause-wrap_that_fires_keeps_its_canceler c = refl

pub returns-clause-busy_over_a_hub_that_holds_it : goal.returns-clause-busy_over_a_hub_that_holds_it
unfolding digits free_to value_to
returns-clause-busy_over_a_hub_that_holds_it c = refl
