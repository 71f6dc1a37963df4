-- The replies to the connections so far.
use Rattle.std.specs.Prelude.{IfSome}
use Rattle.kj_serve.specs.Replay.{AreReplies}
use Rattle.kj_serve.proofs.replay.serve_all.Given as goal

abbrev pub invariant-loop-record : goal.invariant-loop-record
invariant-loop-record g l = IfSome g.S.Service.told (λ f. AreReplies f l.yielded l.replies)
