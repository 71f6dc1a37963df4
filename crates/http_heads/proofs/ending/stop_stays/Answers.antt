use Rattle.http_heads.proofs.StopLemmas.{stop_append}
use Rattle.http_heads.proofs.ending.stop_stays.Goals as goal

pub returns : goal.returns
returns c = stop_append
