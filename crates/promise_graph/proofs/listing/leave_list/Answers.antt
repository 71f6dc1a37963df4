use Rattle.std.proofs.Common.{◌∙◌, sym}
use Rattle.promise_graph.proofs.Listings.{left_list, absent_there, member_elsewhere}
use Rattle.promise_graph.proofs.listing.leave_list.Goals as goal

pub returns-in_default-clause-members : goal.returns-in_default-clause-members
returns-in_default-clause-members g c lists h = absent_there (g.St.Store.node_at c.args.g.now.store) c.args.g.now.marks c.requires.numbered c.args.x.now c.requires.listed lists h c.args.list.0 c.args.node.number.0 c.in_default.ensures

pub returns-then-is_in_list-clause-members : goal.returns-then-is_in_list-clause-members
returns-then-is_in_list-clause-members g c lists h = left_list (g.St.Store.node_at c.args.g.now.store) c.args.g.now.marks c.requires.numbered c.args.x.now c.requires.listed lists h c.in-Some.slot.0 c.args.node.number.0 c.in-Some.ensures c.leave.new.x c.args.list.0 (sym c.is_in_list.ensures ∙ c.if-is_in_list.true) c.leave.ensures.left

pub returns-else-is_in_list-clause-members : goal.returns-else-is_in_list-clause-members
returns-else-is_in_list-clause-members g c lists h = member_elsewhere (g.St.Store.node_at c.args.g.now.store) c.args.g.now.marks c.requires.numbered c.args.x.now c.requires.listed lists h c.args.list.0 c.in-Some.slot.0 c.args.node.number.0 c.in-Some.ensures (sym c.is_in_list.ensures ∙ c.if-is_in_list.false)
