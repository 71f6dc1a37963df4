use Rattle.std.proofs.Common.{ap}
use Rattle.promise_graph.specs.Kept.{is_listed_at}
use Rattle.promise_graph.proofs.Numbered.{slot_absent}
use Rattle.promise_graph.proofs.hubs.leave.Goals as goal

pub returns-in_default-clause-unlisted : goal.returns-in_default-clause-unlisted
returns-in_default-clause-unlisted g c =
    let at = g.St.Store.node_at c.args.g.now.store in
    let m = c.args.g.now.marks in
    ap (is_listed_at at m) (slot_absent at m c.requires.kept.sound.numbered c.args.branch.number.0 c.in_default.ensures)
