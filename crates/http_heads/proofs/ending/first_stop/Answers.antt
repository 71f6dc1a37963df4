use Rattle.std.proofs.Common.{sym, ◌∙◌}
use Rattle.http_heads.specs.Ending.{stops_line}
use Rattle.http_heads.proofs.EndingLemmas.{one_more}
use Rattle.http_heads.proofs.ending.first_stop.Goals as goal

pub returns-then-stops_line-clause-first : goal.returns-then-stops_line-clause-first
returns-then-stops_line-clause-first c = c.loop-k.invariant

pub loop-k-preserved : goal.loop-k-preserved
loop-k-preserved c = one_more (stops_line c.args.bytes.now) c.args.from c.loop-k.k c.loop-k.invariant (sym c.stops_line.ensures ∙ c.if-stops_line.false)
