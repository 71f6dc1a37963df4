use Rattle.std.proofs.Common.{ap, ℕ, Option}
use Rattle.kj_base.specs.Places.{row}
use Rattle.kj_base.specs.Store.{slot_number}
use Rattle.promise_nodes.specs.Shown.{link_number}
use Rattle.promise_graph.proofs.Adding.{before_slot_is}
use Rattle.promise_graph.proofs.fitting.placed_row.Goals as goal

pub returns : goal.returns
returns g c = ap (λ (o : Option ℕ). row o c.args.row.count) (before_slot_is (g.St.Store.node_at c.args.g.now.store) c.args.g.now.marks c.requires (link_number c.args.row.before) (slot_number c.find_before.result) c.find_before.ensures)
