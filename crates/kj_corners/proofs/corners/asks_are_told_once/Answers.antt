-- Each is what the definitions compute.
use Rattle.std.specs.Prelude.{refl}
use Rattle.kj_model.specs.Free.{free_to}
use Rattle.kj_model.specs.Value.{value_to}
use Rattle.kj_corners.proofs.corners.asks_are_told_once.Goals as goal

pub returns-clause-replied : goal.returns-clause-replied
unfolding free_to value_to
returns-clause-replied c = refl

pub returns-clause-still_listed : goal.returns-clause-still_listed
unfolding free_to value_to
returns-clause-still_listed c = refl
