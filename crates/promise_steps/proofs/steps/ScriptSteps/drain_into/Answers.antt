-- The view is what is kept.
use Rattle.std.proofs.Common.{OnOk, subst}
use Rattle.promise_steps.specs.declared.kept.Kept.{Kept}
use Rattle.promise_steps.specs.Following.{Prints}
use Rattle.promise_steps.specs.Kept.{told_by}
use Rattle.promise_steps.proofs.steps.ScriptSteps.drain_into.Goals as goal

pub returns : goal.returns
returns c =
    subst (λ (k : Kept). OnOk c.drain_into.result (Prints (told_by k) (told_by c.drain_into.new.kept) c.args.text.now c.drain_into.new.text)) c.self.view_is
    c.drain_into.ensures.prints
