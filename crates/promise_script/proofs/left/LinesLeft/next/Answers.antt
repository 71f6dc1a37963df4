-- The line that was found, and those behind it.
use Rattle.std.proofs.Common.{◌≡◌, Option, Some, sym, ap, ◌∙◌}
use Rattle.promise_script.specs.declared.meaning.Meaning.{Meaning}
use Rattle.promise_script.specs.Decode.{text_read}
use Rattle.promise_script.specs.Left.{said_outside}
use Rattle.promise_script.proofs.Outside.{one_found}
use Rattle.promise_script.proofs.left.LinesLeft.next.Goals as goal

pub returns-in-Some-clause-next : goal.returns-in-Some-clause-next
returns-in-Some-clause-next c =
    let said : said_outside c.finding.inside (text_read c.first_line.result.0.now) ≡ Some c.in-Some.line =
    ap (λ (o : Option Meaning). said_outside c.finding.inside o) (sym c.in_ok-meaning.ensures) ∙ sym c.said_outside.ensures ∙ c.in-Some.is in
    one_found c.finding.number c.finding.inside c.finding.rest.now c.first_line.result.0.now c.first_line.result.1.now c.args.self.now c.in-Some.line
    c.finding.invariant.0 c.first_line.ensures.lines said
