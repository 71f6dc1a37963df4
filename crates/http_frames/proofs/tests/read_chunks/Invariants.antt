use Rattle.std.proofs.Common.{◌≡◌}
use Rattle.http_frames.specs.declared.Phase.TheVariants.{Going}
use Rattle.http_frames.proofs.tests.read_chunks.Given as goal

abbrev pub invariant-loop-cut : goal.invariant-loop-cut
invariant-loop-cut l = l.chunks.phase ≡ Going
