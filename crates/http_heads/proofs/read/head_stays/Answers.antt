use Rattle.http_heads.proofs.HeadLemmas.{head_append}
use Rattle.http_heads.proofs.read.head_stays.Goals as goal

pub returns : goal.returns
returns c = head_append
