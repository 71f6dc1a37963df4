use Rattle.std.proofs.Common.{◌∙◌, ap}
use Rattle.promise_graph.specs.Memberships.{numbered_in}
use Rattle.promise_graph.proofs.Listings.{newest_is}
use Rattle.promise_graph.proofs.listing.newest_member.Goals as goal

pub returns : goal.returns
returns g c lists h =
    let m = c.args.g.now.marks in
    c.node_in.ensures ∙ ap (numbered_in m.numbers.items) c.newest.ensures ∙ newest_is (g.St.Store.node_at c.args.g.now.store) m c.requires.numbered c.args.x.now c.requires.listed lists h c.args.list.0
