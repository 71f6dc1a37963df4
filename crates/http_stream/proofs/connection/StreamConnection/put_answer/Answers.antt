use Rattle.std.proofs.Common.{◌<◌, ◌^◌, ◌++◌, length, sym, ap, ◌∙◌, arith}
use Rattle.http_core.specs.declared.message.Request.{Request}
use Rattle.http_core.specs.Text.{text}
use Rattle.http_stream.proofs.AnswerLemmas.{asked_stage, asked_at, stands_answered}
use Rattle.http_stream.proofs.connection.StreamConnection.put_answer.Goals as goal

pub returns-clause-stands : goal.returns-clause-stands
returns-clause-stands g c told answer_is is =
    let old = c.args.self.now in
    let stream = g.C.Stream.told old.stream in
    let faults = g.C.Stream.faults old.stream in
    let short : c.len-room.result < 2 ^ 64 = omega arith in
    let at = asked_stage old.stage c.in-Some.left (sym c.asked_left.ensures ∙ c.in-Some.is) in
    stands_answered told stream faults old.part old.part old.request c.replace-request.new.dest c.in-Some.left c.args.answer.now old.octets old.made c.push_answer.new.out old.sent old.answered c.saturating_add-self.result old.abandoned
    c.persists-goes_on.result c.args.drained c.closes_after-closes.result c.answered_stage-self.result c.persists-goes_on.ensures c.closes_after-closes.ensures c.answered_stage-self.ensures (record {
      at = asked_at told stream faults old.stage old.part old.request c.in-Some.left old.octets old.made old.sent old.answered old.abandoned at is;
      within = old.sent_is;
      short = omega (arith, short, c.len-room.ensures);
      answer_is = answer_is;
      pushed = c.in_ok-push_answer.ensures.ok ∙ ap (λ (r : Request). old.made ++ text r c.args.answer.now c.closes_after-closes.result) c.request.ensures;
      counted = c.saturating_add-self.ensures;
    })
