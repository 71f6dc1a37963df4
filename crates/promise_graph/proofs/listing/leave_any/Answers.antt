use Rattle.promise_graph.proofs.Listings.{left_but, absent_but}
use Rattle.promise_graph.proofs.listing.leave_any.Goals as goal

pub returns-in-Some-clause-members : goal.returns-in-Some-clause-members
returns-in-Some-clause-members g c lists h = left_but (g.St.Store.node_at c.args.g.now.store) c.args.g.now.marks c.requires.numbered c.args.x.now c.requires.listed lists h c.in-Some.slot.0 c.args.node.number.0 c.in-Some.ensures c.leave.new.x c.leave.ensures.left

pub returns-in_default-clause-members : goal.returns-in_default-clause-members
returns-in_default-clause-members g c lists h = absent_but (g.St.Store.node_at c.args.g.now.store) c.args.g.now.marks c.requires.numbered c.args.x.now c.requires.listed lists h c.args.node.number.0 c.in_default.ensures
