use Rattle.std.proofs.Common.{length, refl, arith, ap, ◌∙◌, subst, sym}
use Rattle.http_frames.specs.declared.Frame.TheVariants.{Whole}
use Rattle.http_core.specs.declared.message.Request.{Request}
use Rattle.http_core.specs.declared.read.RequestRead.TheVariants as reads
use Rattle.http_core.specs.Reading.{BodyReadsOn}
use Rattle.http_core.proofs.RequestLemmas.{sized_whole}
use Rattle.http_core.proofs.ReadLemmas.{fills_as}
use Rattle.http_core.proofs.read.read_sized.Goals as goal

pub returns-in-Whole-clause-steps : goal.returns-in-Whole-clause-steps
returns-in-Whole-clause-steps c framing behind filled =
    let piece = c.args.piece.now in
    let count = c.in-Whole.count in
    let a = fills_as behind piece c.feed.new.self _ (Whole count) c.in-Whole.is (c.in_ok-feed.ensures.answer behind filled) in
    subst (λ (r : Request). BodyReadsOn c.args.head behind piece (reads.Whole r c.saturating_sub.result)) (sym c.with_body-request.ensures) (
      refl,
      omega (arith, c.saturating_sub.ensures),
      sized_whole c.args.head c.args.lengths.size behind piece c.body-body.result count c.saturating_sub.result framing a.1 c.saturating_sub.ensures (c.body-body.ensures ∙ a.2) (ap length c.body-body.ensures ∙ a.3 ∙ c.in_ok-feed.ensures.size),
    )
