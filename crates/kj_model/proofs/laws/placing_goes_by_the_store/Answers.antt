use Rattle.kj_model.proofs.Placed.{placed_spots}
use Rattle.kj_model.proofs.laws.placing_goes_by_the_store.Goals as goal

pub returns : goal.returns
returns c = placed_spots
