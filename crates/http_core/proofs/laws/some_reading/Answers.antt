use Rattle.http_core.proofs.TotalLemmas.{requests_of}
use Rattle.http_core.proofs.laws.some_reading.Goals as goal

pub returns : goal.returns
returns c = requests_of
