-- Each log is what the definitions compute.
use Rattle.std.specs.Prelude.{refl}
use Rattle.std.specs.Fmt.{digits}
use Rattle.kj_model.specs.Free.{free_to}
use Rattle.kj_model.specs.Value.{value_to}
use Rattle.kj_corners.proofs.corners.joins_are_ready_once.Goals as goal

pub returns : goal.returns
unfolding digits free_to value_to
returns c = refl
