use Rattle.std.proofs.Common.{◌∙◌, refl, sym}
use Rattle.kj_base.specs.Commands.{Drop}
use Rattle.kj_model.specs.World.{World, State, held_at}
use Rattle.kj_model.specs.Changes.{silent, unnamed}
use Rattle.kj_model.specs.Free.{usual}
use Rattle.kj_model.specs.Uses.{use_as, IsDroppable}
use Rattle.promise_nodes.proofs.Same.{unnamed_lists}
use Rattle.promise_walks.proofs.Changing.{does_silent}
use Rattle.promise_apply.specs.Building.{Both}
use Rattle.promise_apply.specs.Sets.{IsCleared, set_cleared}
use Rattle.promise_apply.proofs.Alone.{alone_behind, drop_alone}
use Rattle.promise_apply.proofs.Cleared.{drop_busy, tested_tasks}
use Rattle.promise_apply.proofs.Dropped.{done_does, err_does}
use Rattle.promise_apply.proofs.Tasked.{set_drops}
use Rattle.promise_apply.proofs.dropping.drop_set.Goals as goal

pub returns-in_err-check_tasks-clause-applied : goal.returns-in_err-check_tasks-clause-applied
returns-in_err-check_tasks-clause-applied g c =
    let name = c.args.name.0 in
    err_does (Both (g.N.Nodes.stands c.args.nodes.now) (g.M.Names.stands c.args.names.now)) (Both (g.N.Nodes.stands c.check_tasks.new.nodes) (g.M.Names.stands c.args.names.now)) g.N.Nodes.rule
    c.from_residual.result c.in_err-check_tasks.field-0.0 (Drop name) _ c.from_residual.ensures.1
    (λ w old. (c.in_err-check_tasks.ensures.stands w old.0, old.1))
    (λ answer inside s old.
    alone_behind g.N.Nodes.rule answer inside _ (Drop name) (use_as IsDroppable name) s (drop_alone name) (c.requires.passes s.world old) (drop_busy name c.args.tasks s (c.requires.tasks s.world old.1))
    ∙ sym (tested_tasks g.N.Nodes.rule (use_as IsDroppable name) _ s.world c.dropped.ensures (λ passes. c.in_err-check_tasks.ensures.refusal s.world old passes) (c.requires.passes s.world old)))

pub returns-clause-applied : goal.returns-clause-applied
returns-clause-applied g c =
    let name = c.args.name.0 in
    let then = c.clear_tasks.new.nodes in
    let A : World → Type 0 = Both (g.N.Nodes.stands c.args.nodes.now) (g.M.Names.stands c.args.names.now) in
    let B : World → Type 0 = Both (g.N.Nodes.stands c.check_tasks.new.nodes) (g.M.Names.stands c.args.names.now) in
    let C : World → Type 0 = IsCleared (Both (g.N.Nodes.stands then) (g.M.Names.stands c.clear_tasks.new.names)) name in
    let D : World → Type 0 = Both (g.N.Nodes.stands then) (g.M.Names.stands c.remove.new.self) in
    let whole : State → State = λ s. silent (unnamed name) (set_cleared name s) in
    done_does A B D g.N.Nodes.rule (Drop name) (λ w. w) whole _ _
    (λ answer inside s old.
    alone_behind g.N.Nodes.rule answer inside _ (Drop name) (use_as IsDroppable name) s (drop_alone name) (c.requires.passes s.world old) (drop_busy name c.args.tasks s (c.requires.tasks s.world old.1))
    ∙ sym (tested_tasks g.N.Nodes.rule (use_as IsDroppable name) _ s.world c.dropped.ensures (λ passes. c.in_ok-check_tasks.ensures.refusal s.world old passes) (c.requires.passes s.world old)))
    (λ s old. set_drops (usual s.world) name c.args.tasks (held_at name s.world.names) s (c.requires.tasks s.world old.1))
    (λ w old. (c.in_ok-check_tasks.ensures.stands w old.0, old.1))
    (does_silent B C D (set_cleared name) whole (λ s. s) (unnamed name) _ _ c.clear_tasks.ensures.does
    (λ s old cleared.
    let v = (set_cleared name s).world in
    ((g.met.N.Nodes.names_free then v (unnamed name v) refl (unnamed_lists name v cleared.1) cleared.0.0, c.remove.ensures.stands v cleared.0.1), refl)))
