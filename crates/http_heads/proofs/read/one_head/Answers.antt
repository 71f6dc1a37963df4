use Rattle.http_heads.proofs.HeadLemmas.{head_unique}
use Rattle.http_heads.proofs.read.one_head.Goals as goal

pub returns : goal.returns
returns c = head_unique
