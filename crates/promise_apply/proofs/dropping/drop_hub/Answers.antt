use Rattle.std.proofs.Common.{◌∙◌, ◌+◌, ℕ, Option, refl, ap}
use Rattle.std.specs.Prelude.{option_to_list}
use Rattle.kj_base.specs.Commands.{Drop}
use Rattle.kj_model.specs.Nodes.{form_at}
use Rattle.kj_model.specs.World.{World, State, Held}
use Rattle.kj_model.specs.Changes.{silent, unnamed}
use Rattle.kj_model.specs.Free.{Guard, Holding, free, free_to, reference_gone, usual}
use Rattle.kj_model.specs.Effects.{dropped_held, hub_unnamed}
use Rattle.promise_nodes.specs.Shown.{link_number}
use Rattle.promise_walks.proofs.Unnamed.{unnamed_names, unreferenced_same}
use Rattle.promise_nodes.proofs.Same.{unnamed_lists}
use Rattle.promise_nodes.specs.Members.{members_of}
use Rattle.promise_apply.specs.Building.{Both}
use Rattle.promise_apply.proofs.Dropped.{done_does, err_does}
use Rattle.promise_apply.proofs.dropping.drop_hub.Goals as goal

pub returns-in_err-test_hub-clause-applied : goal.returns-in_err-test_hub-clause-applied
returns-in_err-test_hub-clause-applied g c =
    err_does (Both (g.N.Nodes.stands c.args.nodes.now) (g.M.Names.stands c.args.names.now)) (Both (g.N.Nodes.stands c.test_hub.new.nodes) (g.M.Names.stands c.args.names.now)) g.N.Nodes.rule
    c.from_residual.result c.in_err-test_hub.field-0.0 (Drop c.args.name.0) _ c.from_residual.ensures.1
    (λ w old. (c.in_err-test_hub.ensures.stands w old.0, old.1))
    (λ answer inside s old. c.in_err-test_hub.ensures.refusal answer inside s old)

pub returns-clause-applied : goal.returns-clause-applied
returns-clause-applied g c =
    let name = c.args.name.0 in
    let hub = c.args.hub.number.0 in
    let nodes = c.test_hub.new.nodes in
    let then = c.unname_hub.new.nodes in
    let names = c.remove.new.self in
    let guard : Guard = Holding (option_to_list (link_number c.firing.result)) in
    let by_slots : ℕ → State → State = free_to guard (g.N.Nodes.slots then + 1) in
    let change : World → World = λ w. hub_unnamed hub (unnamed name w) in
    let moved : (w : World) → Both (g.N.Nodes.stands c.args.nodes.now) (g.M.Names.stands c.args.names.now) w → Both (g.N.Nodes.stands then) (g.M.Names.stands names) (change w) = λ w old.
    let bare = g.met.N.Nodes.names_free nodes w (unnamed name w) refl (unnamed_lists name w (ap members_of (c.requires.held w old).held_is)) (c.in_ok-test_hub.ensures.stands w old.0) in
    (c.unname_hub.ensures.stands (unnamed name w) bare, g.met.M.Names.nodes_free names (unnamed name w) (change w) (unnamed_names hub (unnamed name w)) (c.remove.ensures.stands w old.1)) in
    done_does (Both (g.N.Nodes.stands c.args.nodes.now) (g.M.Names.stands c.args.names.now)) (Both (g.N.Nodes.stands then) (g.M.Names.stands names)) (Both (g.N.Nodes.stands c.free_unreferenced.new.nodes) (g.M.Names.stands c.free_unreferenced.new.names)) g.N.Nodes.rule (Drop name) change (reference_gone guard by_slots hub) _ _
    (λ answer inside s old. c.in_ok-test_hub.ensures.refusal answer inside s old)
    (λ s old.
    let t = silent change s in
    ap (λ (o : Option Held). dropped_held (usual s.world) name o s) (c.requires.held s.world old).held_is
    ∙ ap (λ (o : Option ℕ). reference_gone (Holding (option_to_list o)) (free (Holding (option_to_list o))) hub t) (c.firing.ensures s.world (c.in_ok-test_hub.ensures.stands s.world old.0))
    ∙ unreferenced_same guard (free guard) by_slots hub (form_at hub t.world.nodes) t (ap (λ (k : ℕ). free_to guard (k + 1) hub t) (g.met.N.Nodes.slots_are then t.world (moved s.world old).0)))
    moved
    c.free_unreferenced.ensures.does
