use Rattle.std.proofs.Common.{◌≡◌, ℕ, sym, ap, subst, ◌∙◌}
use Rattle.kj_base.specs.declared.outcomes.Outcome.{Outcome}
use Rattle.kj_base.specs.Queue.{DepthFirst}
use Rattle.kj_model.specs.Changes.{unnamed}
use Rattle.kj_model.specs.Effects.{node_of, cell_dropped}
use Rattle.kj_model.specs.Listening.{settled}
use Rattle.kj_model.specs.Outcomes.{fulfiller_dropped}
use Rattle.promise_nodes.proofs.Same.{unnamed_lists}
use Rattle.promise_nodes.specs.Members.{members_of}
use Rattle.promise_apply.proofs.Same.{settled_names, unnamed_nodes}
use Rattle.promise_apply.proofs.cells.drop_cell.Goals as goal

pub returns-clause-stands : goal.returns-clause-stands
returns-clause-stands g c w both held =
    let name = c.args.name.0 in
    let n = c.args.cell.number.0 in
    let v = unnamed name w in
    let o = c.dropped.result in
    let nodes = g.met.N.Nodes.names_free c.args.nodes.now w v (unnamed_nodes name w) (unnamed_lists name w (ap members_of held)) both.0 in
    let settles = c.settle.ensures.stands v nodes in
    let names = g.met.M.Names.nodes_free c.remove.new.self v (settled DepthFirst n o v) (settled_names DepthFirst n o v) (c.remove.ensures.stands w both.1) in
    let same : settled DepthFirst n o v ≡ cell_dropped name w =
    ap (λ (x : Outcome). settled DepthFirst n x v) c.dropped.ensures
    ∙ ap (λ (m : ℕ). settled DepthFirst m fulfiller_dropped v) (sym (ap node_of held)) in
    (subst (g.N.Nodes.stands c.settle.new.nodes) same settles, subst (g.M.Names.stands c.remove.new.self) same names)
