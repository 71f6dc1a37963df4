use Rattle.std.proofs.Common.{◌∙◌, refl, sym}
use Rattle.kj_base.specs.Commands.{Clear}
use Rattle.kj_model.specs.World.{World}
use Rattle.kj_model.specs.Uses.{use_as, IsGroup}
use Rattle.promise_walks.proofs.Changing.{does_ends}
use Rattle.promise_apply.specs.Building.{Both}
use Rattle.promise_apply.specs.Sets.{IsCleared, set_cleared}
use Rattle.promise_apply.proofs.Alone.{alone_behind, clear_alone}
use Rattle.promise_apply.proofs.Cleared.{clear_busy, tested_tasks}
use Rattle.promise_apply.proofs.Dropped.{done_does, err_does}
use Rattle.promise_apply.proofs.clearing.try_clear.Goals as goal

pub returns-in_err-check_tasks-clause-applied : goal.returns-in_err-check_tasks-clause-applied
returns-in_err-check_tasks-clause-applied g c =
    let group = c.args.group.0 in
    err_does (Both (g.N.Nodes.stands c.args.nodes.now) (g.M.Names.stands c.args.names.now)) (Both (g.N.Nodes.stands c.check_tasks.new.nodes) (g.M.Names.stands c.args.names.now)) g.N.Nodes.rule
    c.from_residual.result c.in_err-check_tasks.field-0.0 (Clear group) _ c.from_residual.ensures.1
    (λ w old. (c.in_err-check_tasks.ensures.stands w old.0, old.1))
    (λ answer inside s old.
    alone_behind g.N.Nodes.rule answer inside _ (Clear group) (use_as IsGroup group) s (clear_alone group) (c.requires.passes s.world old) (clear_busy group c.args.tasks s (c.requires.tasks s.world old.1))
    ∙ sym (tested_tasks g.N.Nodes.rule (use_as IsGroup group) _ s.world c.cleared.ensures (λ passes. c.in_err-check_tasks.ensures.refusal s.world old passes) (c.requires.passes s.world old)))

pub returns-clause-applied : goal.returns-clause-applied
returns-clause-applied g c =
    let group = c.args.group.0 in
    let A : World → Type 0 = Both (g.N.Nodes.stands c.args.nodes.now) (g.M.Names.stands c.args.names.now) in
    let B : World → Type 0 = Both (g.N.Nodes.stands c.check_tasks.new.nodes) (g.M.Names.stands c.args.names.now) in
    let C : World → Type 0 = Both (g.N.Nodes.stands c.clear_tasks.new.nodes) (g.M.Names.stands c.clear_tasks.new.names) in
    done_does A B C g.N.Nodes.rule (Clear group) (λ w. w) (set_cleared group) _ _
    (λ answer inside s old.
    alone_behind g.N.Nodes.rule answer inside _ (Clear group) (use_as IsGroup group) s (clear_alone group) (c.requires.passes s.world old) (clear_busy group c.args.tasks s (c.requires.tasks s.world old.1))
    ∙ sym (tested_tasks g.N.Nodes.rule (use_as IsGroup group) _ s.world c.cleared.ensures (λ passes. c.in_ok-check_tasks.ensures.refusal s.world old passes) (c.requires.passes s.world old)))
    (λ s old. refl)
    (λ w old. (c.in_ok-check_tasks.ensures.stands w old.0, old.1))
    (does_ends B (IsCleared C group) C (set_cleared group) (λ s. s) _ _ (λ w cleared. cleared.0) (λ s cleared. refl) c.clear_tasks.ensures.does)
