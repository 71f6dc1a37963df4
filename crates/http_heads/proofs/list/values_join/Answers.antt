use Rattle.http_heads.proofs.ValueLemmas.{elements-join}
use Rattle.http_heads.proofs.list.values_join.Goals as goal

pub returns : goal.returns
returns c = elements-join
