use Rattle.std.proofs.Common.{sym, ◌∙◌, arith, length}
use Rattle.http_heads.specs.Ending.{ends_empty_line}
use Rattle.http_heads.proofs.EndingLemmas.{one_more, ends_before, section_ends, section_inside}
use Rattle.http_heads.proofs.ending.brings_section.Goals as goal

pub loop-k-preserved : goal.loop-k-preserved
loop-k-preserved c = one_more (ends_empty_line c.args.bytes.now) c.args.from c.loop-k.k c.loop-k.invariant (sym c.ends_empty_line.ensures ∙ c.if-ends_empty_line.false)

pub returns-clause-later : goal.returns-clause-later
returns-clause-later c _ fields len rest has =
    ends_before (ends_empty_line c.args.bytes.now) c.args.from (length c.args.bytes.now) len (λ k low high. c.loop-k.invariant k low (omega (arith, c.loop-k-test.false))) (section_ends c.args.bytes.now fields len rest has) (section_inside c.args.bytes.now fields len rest has)
