use Rattle.std.proofs.Common.{ap, ◌∙◌}
use Rattle.promise_graph.specs.Visits.{mark_at}
use Rattle.promise_graph.proofs.Marked.{mark_seen}
use Rattle.promise_graph.proofs.Numbered.{slot_found}
use Rattle.promise_graph.proofs.calls.GraphNodes.mark_of.Goals as goal

pub returns : goal.returns
returns g c =
    let fields = c.self.inside.fields in
    let n = c.args.node.number.0 in
    c.mark_at.ensures
    ∙ ap (mark_at c.self.inside.visits) (slot_found (g.St.Store.node_at fields.store) fields.marks c.self.invariant.0.sound.numbered n _ c.find.ensures)
    ∙ mark_seen _ _ _ _ n c.self.view_is
