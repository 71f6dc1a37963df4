use Rattle.kj_serve.proofs.OutputLemmas.{given_written}
use Rattle.kj_serve.proofs.laws.ends_with_output.Goals as goal

pub returns : goal.returns
returns c = given_written
