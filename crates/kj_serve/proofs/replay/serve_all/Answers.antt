-- One connection more.
use Rattle.std.proofs.Common.{List, ℕ, subst}
use Rattle.std.specs.Prelude.{IfSome}
use Rattle.http_core.specs.Replies.{IsReplies}
use Rattle.kj_serve.proofs.RepliesLemmas.{replies_more}
use Rattle.kj_serve.proofs.replay.serve_all.Goals as goal

pub loop-record-preserved : goal.loop-record-preserved
loop-record-preserved g c =
    let told = g.S.Service.told in
    let written = c.in_ok-written.written in
    let served : IfSome told (λ f. IsReplies f c.in-Some.record written) = subst (λ (x : List ℕ). IfSome told (λ f. IsReplies f x written)) c.as_slice.ensures c.in_ok-written.ensures in
    replies_more told c.loop-record.yielded c.in-Some.record written c.loop-record.replies c.push.new.self c.loop-record.invariant served c.in_ok-push.ensures.ok
