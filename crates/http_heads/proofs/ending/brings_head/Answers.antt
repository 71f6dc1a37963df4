use Rattle.std.proofs.Common.{sym, ◌∙◌, arith, length}
use Rattle.http_heads.specs.Ending.{ends_lines}
use Rattle.http_heads.proofs.EndingLemmas.{one_more, ends_before, head_ends, head_inside}
use Rattle.http_heads.proofs.ending.brings_head.Goals as goal

pub loop-k-preserved : goal.loop-k-preserved
loop-k-preserved c = one_more (ends_lines c.args.bytes.now) c.args.from c.loop-k.k c.loop-k.invariant (sym c.ends_lines.ensures ∙ c.if-ends_lines.false)

pub returns-clause-later : goal.returns-clause-later
returns-clause-later c _ head len has =
    ends_before (ends_lines c.args.bytes.now) c.args.from (length c.args.bytes.now) len (λ k low high. c.loop-k.invariant k low (omega (arith, c.loop-k-test.false))) (head_ends c.args.bytes.now head len has) (head_inside c.args.bytes.now head len has)
