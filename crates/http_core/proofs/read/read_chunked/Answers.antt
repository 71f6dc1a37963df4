use Rattle.std.proofs.Common.{ℕ, List, ◌++◌, [], take, refl, arith, inr, subst, sym}
use Rattle.http_frames.specs.declared.Frame.TheVariants.{More, Whole, Bad}
use Rattle.http_core.specs.declared.message.Request.{Request}
use Rattle.http_core.specs.declared.read.RequestRead.TheVariants as reads
use Rattle.http_core.specs.Reading.{BodyReadsOn}
use Rattle.http_frames.specs.Chunks.{Body}
use Rattle.http_core.proofs.RequestLemmas.{chunked_whole}
use Rattle.http_core.proofs.ReadLemmas.{answers_as}
use Rattle.http_core.proofs.read.read_chunked.Goals as goal

pub returns-in-More-clause-steps : goal.returns-in-More-clause-steps
returns-in-More-clause-steps c framing behind fed =
    let a = answers_as behind c.args.piece.now c.feed.new.self _ More c.in-More.is (c.in_ok-feed.ensures.answer behind fed) in (refl, framing, a.1, a.2, a.3)

pub returns-in-Whole-clause-steps : goal.returns-in-Whole-clause-steps
returns-in-Whole-clause-steps c framing behind fed =
    let piece = c.args.piece.now in
    let count = c.in-Whole.count in
    let new = c.feed.new.self in
    let a = answers_as behind piece new _ (Whole count) c.in-Whole.is (c.in_ok-feed.ensures.answer behind fed) in
    let body : Body (behind ++ take count piece) c.into_parts-body.result.0 new.trailer [] = subst (λ (b : List ℕ). Body (behind ++ take count piece) b new.trailer []) (sym c.into_parts-body.ensures) a.2 in
    subst (λ (r : Request). BodyReadsOn c.args.head behind piece (reads.Whole r c.saturating_sub.result)) (sym c.with_body-request.ensures)
    (refl, omega (arith, c.saturating_sub.ensures), chunked_whole c.args.head behind piece c.into_parts-body.result.0 new.trailer count c.saturating_sub.result framing a.1 c.saturating_sub.ensures body)

pub returns-in-Bad-clause-steps : goal.returns-in-Bad-clause-steps
returns-in-Bad-clause-steps c framing behind fed =
    let a = answers_as behind c.args.piece.now c.feed.new.self _ Bad c.in-Bad.is (c.in_ok-feed.ensures.answer behind fed) in inr (framing, a.1, refl)
