use Rattle.http_frames.proofs.ChunkLemmas.{body_only}
use Rattle.http_frames.proofs.chunks.one_body.Goals as goal

pub returns : goal.returns
returns c = body_only
