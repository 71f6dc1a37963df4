-- A run is kept with the body that it gave.
use Rattle.std.proofs.Common.{List, [], ◌∷◌, ap, subst, sym}
use Rattle.std.specs.Borrow.{Bor}
use Rattle.kj_base.specs.Record.{Run}
use Rattle.promise_commands.specs.Telling.{Hears}
use Rattle.kj_base.specs.declared.outcomes.Outcome.{Outcome}
use Rattle.promise_commands.specs.Script.{Script}
use Rattle.promise_steps.specs.declared.order.Entry.{Entry}
use Rattle.promise_steps.specs.Order.{InOrder, left_of, given_of, IsLeft}
use Rattle.promise_steps.specs.Kept.{told_by}
use Rattle.promise_steps.proofs.Keeping.{told_more, kept_run}
use Rattle.promise_steps.proofs.kept.tell_run.Goals as goal

pub returns-clause-kept : goal.returns-clause-kept
returns-clause-kept c =
    let old = c.args.kept.now in
    let bodies = old.script.now.bodies in
    let n = c.args.node.0 in
    let step = c.args.step.0 in
    let action = given_of bodies c.take_next-which.result in
    let t = c.take_next-which.ensures in
    let same = sym c.keep.ensures.order in
    kept_run old c.keep.new.kept n step c.copy.result action c.requires (ap (λ (s : Bor Script). s.now.bodies) c.keep.ensures.script)
    (subst (InOrder bodies) same t.in_order) t.gives
    (subst (λ (es : List Entry). IsLeft (left_of bodies es) (left_of bodies old.order.items) (Run n step c.copy.result action ∷ [])) same (t.left n c.copy.result))
    c.keep.ensures.begun c.keep.ensures.told

pub returns-clause-told : goal.returns-clause-told
returns-clause-told c =
    let n = c.args.node.0 in
    let step = c.args.step.0 in
    let old = c.args.kept.now in
    let new = c.keep.new.kept in
    let action = given_of old.script.now.bodies c.take_next-which.result in
    subst (λ (o : Outcome). Hears (told_by old) (Run n step o action ∷ []) (told_by new)) c.copy.ensures
    (told_more old new (Run n step c.copy.result action) c.keep.ensures.begun c.keep.ensures.told)
