use Rattle.std.proofs.Common.{arith, subst, sym, Bool}
use Rattle.std.specs.Bool.{OnTrue}
use Rattle.xthread.specs.Told.{EndKnown}
use Rattle.xthread.proofs.Marks.{known_end}
use Rattle.xthread.proofs.executor.Executor.ended.Goals as goal

pub ended-requires-clause-word : goal.ended-requires-clause-word
ended-requires-clause-word g c = let below = c.requires.holds.below in let words = c.requires.pass.words in omega arith

pub returns-clause-over : goal.returns-clause-over
returns-clause-over g c = subst (λ (b : Bool). OnTrue b (EndKnown c.ended.new.pass c.args.ticket.now.request)) (sym c.is_some.ensures) (known_end c.args.ticket.now.request c.ended.result c.ended.ensures.pass.0 c.ended.ensures.some)
