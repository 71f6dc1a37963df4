use Rattle.kj_ownership.proofs.Answers.{spares}
use Rattle.kj_ownership.proofs.laws.steps_spare_what_is_evaluated.Goals as goal

pub returns : goal.returns
returns c = spares
