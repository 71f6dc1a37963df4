use Rattle.std.proofs.Common.{Option, refl, ap}
use Rattle.kj_base.specs.Commands.{Drop}
use Rattle.kj_model.specs.World.{Held}
use Rattle.kj_model.specs.Changes.{unnamed}
use Rattle.kj_model.specs.Free.{usual}
use Rattle.kj_model.specs.Effects.{dropped_held}
use Rattle.kj_model.specs.Value.{freed}
use Rattle.promise_nodes.proofs.Same.{unnamed_lists}
use Rattle.promise_nodes.specs.Members.{members_of}
use Rattle.promise_apply.specs.Building.{Both}
use Rattle.promise_apply.proofs.Dropped.{done_does, err_does}
use Rattle.promise_apply.proofs.dropping.drop_promise.Goals as goal

pub returns-in_err-test_promise-clause-applied : goal.returns-in_err-test_promise-clause-applied
returns-in_err-test_promise-clause-applied g c =
    err_does (Both (g.N.Nodes.stands c.args.nodes.now) (g.M.Names.stands c.args.names.now)) (Both (g.N.Nodes.stands c.test_promise.new.nodes) (g.M.Names.stands c.args.names.now)) g.N.Nodes.rule
    c.from_residual.result c.in_err-test_promise.field-0.0 (Drop c.args.name.0) _ c.from_residual.ensures.1
    (λ w old. (c.in_err-test_promise.ensures.stands w old.0, old.1))
    (λ answer inside s old. c.in_err-test_promise.ensures.refusal answer inside s old)

pub returns-clause-applied : goal.returns-clause-applied
returns-clause-applied g c =
    let name = c.args.name.0 in
    let root = c.args.root.number.0 in
    let nodes = c.test_promise.new.nodes in
    done_does (Both (g.N.Nodes.stands c.args.nodes.now) (g.M.Names.stands c.args.names.now)) (Both (g.N.Nodes.stands nodes) (g.M.Names.stands c.remove.new.self)) (Both (g.N.Nodes.stands c.free_part.new.nodes) (g.M.Names.stands c.free_part.new.names)) g.N.Nodes.rule (Drop name) (unnamed name) (freed root) _ _
    (λ answer inside s old. c.in_ok-test_promise.ensures.refusal answer inside s old)
    (λ s old. ap (λ (o : Option Held). dropped_held (usual s.world) name o s) (c.requires.held s.world old).held_is)
    (λ w old. (g.met.N.Nodes.names_free nodes w (unnamed name w) refl (unnamed_lists name w (ap members_of (c.requires.held w old).held_is)) (c.in_ok-test_promise.ensures.stands w old.0), c.remove.ensures.stands w old.1))
    c.free_part.ensures.does
