use Rattle.http_core.proofs.UniqueLemmas.{one_reading}
use Rattle.http_core.proofs.laws.one_reading.Goals as goal

pub returns : goal.returns
returns c = one_reading
