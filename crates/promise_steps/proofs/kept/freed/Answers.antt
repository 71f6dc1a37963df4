-- A free is kept.
use Rattle.std.proofs.Common.{ap}
use Rattle.std.specs.Borrow.{Bor}
use Rattle.kj_base.specs.Record.{Free}
use Rattle.promise_commands.specs.Script.{Script}
use Rattle.promise_steps.proofs.Keeping.{told_more, kept_freed}
use Rattle.promise_steps.proofs.kept.freed.Goals as goal

pub returns-clause-kept : goal.returns-clause-kept
returns-clause-kept c = kept_freed c.args.kept.now c.keep.new.kept c.args.node.0 c.requires (ap (λ (s : Bor Script). s.now.bodies) c.keep.ensures.script) c.keep.ensures.order c.keep.ensures.begun c.keep.ensures.told

pub returns-clause-told : goal.returns-clause-told
returns-clause-told c = told_more c.args.kept.now c.keep.new.kept (Free c.args.node.0) c.keep.ensures.begun c.keep.ensures.told
