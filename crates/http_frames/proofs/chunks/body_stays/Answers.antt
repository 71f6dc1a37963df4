use Rattle.http_frames.proofs.ChunkLemmas.{body_append}
use Rattle.http_frames.proofs.chunks.body_stays.Goals as goal

pub returns : goal.returns
returns c = body_append
