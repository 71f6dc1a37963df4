use Rattle.promise_graph.proofs.Listings.{cleared_lists}
use Rattle.promise_graph.proofs.listing.clear_list.Goals as goal

pub returns-clause-members : goal.returns-clause-members
returns-clause-members g c lists h = cleared_lists (g.St.Store.node_at c.args.g.now.store) c.args.g.now.marks c.requires.numbered c.args.x.now c.requires.listed lists h c.args.list.0 c.clear.new.x c.clear.ensures.cleared
