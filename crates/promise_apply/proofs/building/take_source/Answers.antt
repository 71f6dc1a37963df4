use Rattle.std.proofs.Common.{◌≡◌, ◌∙◌, ℕ, [], Some, ap, refl, subst, sym}
use Rattle.kj_model.specs.Changes.{unnamed}
use Rattle.kj_model.specs.Effects.{node_of, over_built}
use Rattle.kj_model.specs.Nodes.{Form}
use Rattle.kj_model.specs.Places.{built}
use Rattle.promise_nodes.specs.Shown.{shown}
use Rattle.promise_nodes.specs.Members.{members_of}
use Rattle.promise_nodes.proofs.Same.{built_names, unnamed_lists}
use Rattle.promise_apply.specs.Building.{over_shown}
use Rattle.promise_apply.proofs.building.take_source.Goals as goal

pub returns-clause-stands : goal.returns-clause-stands
returns-clause-stands g c w both held =
    let source = c.args.source.0 in
    let t = c.args.root.number.0 in
    let v = unnamed source w in
    let form = shown [] c.form_over.result in
    let over = over_shown c.args.over in
    let nodes = c.build.ensures.stands v (g.met.N.Nodes.names_free c.args.nodes.now w v refl (unnamed_lists source w (ap members_of held)) both.0) in
    let names = g.met.M.Names.nodes_free c.remove.new.self v (built (Some t) form v) (built_names (Some t) form v) (c.remove.ensures.stands w both.1) in
    let same : built (Some t) form v ≡ over_built over source w = ap (λ (f : Form). built (Some t) f v) c.form_over.ensures.form ∙ ap (λ (r : ℕ). built (Some r) (over r) v) (sym (ap node_of held)) in
    (subst (g.N.Nodes.stands c.build.new.self) same nodes, subst (g.M.Names.stands c.remove.new.self) same names)
