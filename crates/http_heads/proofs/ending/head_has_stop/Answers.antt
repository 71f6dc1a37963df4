use Rattle.http_heads.proofs.StopLemmas.{head_stop}
use Rattle.http_heads.proofs.ending.head_has_stop.Goals as goal

pub returns : goal.returns
returns c = head_stop
