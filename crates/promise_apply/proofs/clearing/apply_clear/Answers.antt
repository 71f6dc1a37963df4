use Rattle.std.proofs.Common.{◌∙◌, [], ◌∷◌, Option, None, sym, ap, subst}
use Rattle.kj_base.specs.Commands.{Clear}
use Rattle.kj_model.specs.World.{World, held_at}
use Rattle.kj_model.specs.Uses.{Use, use_as, IsGroup}
use Rattle.kj_model.specs.Apply.{Stopped}
use Rattle.promise_apply.specs.declared.sets.Tasks.{Tasks}
use Rattle.promise_apply.specs.Building.{Both}
use Rattle.promise_apply.specs.Applying.{names_refused, refused_first, refused_if}
use Rattle.promise_apply.specs.Sets.{SeesTasks}
use Rattle.promise_apply.proofs.Alone.{alone_named, clear_alone}
use Rattle.promise_apply.proofs.Dropped.{err_does, never_does}
use Rattle.promise_apply.proofs.Passed.{first_role}
use Rattle.promise_apply.proofs.Refused.{none_first, passed_names}
use Rattle.promise_apply.proofs.Tasked.{tasks_there}
use Rattle.promise_apply.proofs.clearing.apply_clear.Goals as goal

pub returns-in_err-check_named-clause-applied : goal.returns-in_err-check_named-clause-applied
returns-in_err-check_named-clause-applied g c =
    let group = c.args.group.0 in
    let A : World → Type 0 = Both (g.N.Nodes.stands c.args.nodes.now) (g.M.Names.stands c.args.names.now) in
    err_does A A g.N.Nodes.rule c.from_residual.result c.in_err-check_named.field-0.0 (Clear group) _ c.from_residual.ensures.1 (λ w old. old)
    (λ answer inside s old. alone_named g.N.Nodes.rule answer inside (Clear group) (use_as IsGroup group) _ s (clear_alone group) (c.in_err-check_named.ensures.refusal s.world old ∙ ap (λ (u : Use). refused_first (u ∷ []) s.world) c.cleared.ensures))

pub try_clear-requires-clause-passes : goal.try_clear-requires-clause-passes
try_clear-requires-clause-passes g c w old = sym (c.in_ok-check_named.ensures.refusal w old ∙ ap (λ (u : Use). refused_first (u ∷ []) w) c.cleared.ensures)

pub try_clear-requires-clause-tasks : goal.try_clear-requires-clause-tasks
try_clear-requires-clause-tasks g c w names = subst (λ (o : Option Tasks). SeesTasks o (held_at c.args.group.0 w.names)) c.in-Some.is (c.tasks_named.ensures w names)

pub returns-in-None-clause-applied : goal.returns-in-None-clause-applied
returns-in-None-clause-applied g c =
    let group = c.args.group.0 in
    let uses = use_as IsGroup group ∷ [] in
    let A : World → Type 0 = Both (g.N.Nodes.stands c.args.nodes.now) (g.M.Names.stands c.args.names.now) in
    never_does A A g.N.Nodes.rule None (Clear group) _
    (λ w old.
    let first = sym (c.in_ok-check_named.ensures.refusal w old ∙ ap (λ (u : Use). refused_first (u ∷ []) w) c.cleared.ensures) in
    tasks_there c.tasks_named.result (held_at group w.names) (c.tasks_named.ensures w old.1)
    (first_role IsGroup group [] w (passed_names uses w (none_first (refused_if w.stopped Stopped) (names_refused uses w) first).1)) c.in-None.is)
