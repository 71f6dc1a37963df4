use Rattle.std.proofs.Common.{◌≡◌, Result, sym, ap, subst, ◌∙◌}
use Rattle.std.specs.Prelude.{OnErr}
use Rattle.kj_base.specs.declared.memory.NoMemory.{NoMemory}
use Rattle.http_stream.specs.declared.next.Next.{Next}
use Rattle.http_stream.specs.Moves.{after_reading}
use Rattle.http_stream.proofs.StepLemmas.{answered_goes}
use Rattle.http_stream.proofs.connection.StreamConnection.answer_wanted.Goals as goal

pub returns-in_ok-put_answer-in-Answer-clause-lacks : goal.returns-in_ok-put_answer-in-Answer-clause-lacks
returns-in_ok-put_answer-in-Answer-clause-lacks g c =
    let old = c.args.self.now in
    let new = c.put_answer.new.self in
    subst (λ (r : Result Next NoMemory). OnErr r (new ≡ old)) (sym (c.after_reading-in-Answer.ensures ∙ ap after_reading c.wants.ensures))
    (answered_goes old new c.args.drained (new ≡ old) (sym c.requires ∙ c.in-Answer.is) c.in_ok-put_answer-in-Answer.ensures.answered.stage)
