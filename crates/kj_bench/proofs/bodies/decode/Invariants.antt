use Rattle.std.proofs.Common.{◌≡◌}
use Rattle.http_frames.specs.declared.Phase.TheVariants.{Going}
use Rattle.kj_bench.proofs.bodies.decode.Given as goal

abbrev pub invariant-loop : goal.invariant-loop
invariant-loop l = l.chunks.phase ≡ Going
