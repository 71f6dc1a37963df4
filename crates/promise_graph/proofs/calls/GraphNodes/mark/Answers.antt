use Rattle.std.proofs.Common.{◌∙◌}
use Rattle.promise_graph.proofs.Marked.{marked_in, marked_seen}
use Rattle.promise_graph.proofs.calls.GraphNodes.mark.Goals as goal

pub returns-in-Some-clause-marks : goal.returns-in-Some-clause-marks
returns-in-Some-clause-marks g c w st live m =
    let fields = c.self.inside.fields in
    let n = c.args.node.number.0 in
    marked_in (g.St.Store.node_at fields.store) fields.marks c.self.invariant.0.sound.numbered c.self.inside.visits c.note.new.visits n c.in-Some.slot.0 c.args.mark c.in-Some.ensures c.note.ensures.noted m
    ∙ marked_seen _ _ _ _ n c.args.mark m c.self.view_is
