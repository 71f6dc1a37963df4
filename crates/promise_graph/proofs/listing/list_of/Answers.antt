use Rattle.std.proofs.Common.{◌≡◌, ◌∙◌, Option, None, Some, sym}
use Rattle.std.proofs.lemmas.Bool.{false≢true}
use Rattle.kj_base.specs.declared.numbers.Name.{Name}
use Rattle.promise_nodes.specs.Members.{IsListOf}
use Rattle.promise_graph.specs.Memberships.{list_at}
use Rattle.promise_graph.proofs.Members.{given_absent}
use Rattle.promise_graph.proofs.Listings.{no_member, listed_in}
use Rattle.promise_graph.proofs.listing.list_of.Goals as goal

pub returns-in_default : goal.returns-in_default
returns-in_default g c lists h given = absurd (false≢true (sym (given_absent (g.St.Store.node_at c.args.g.now.store) c.args.g.now.marks c.requires.numbered c.args.node.number.0 c.in_default.ensures) ∙ given))

pub returns : goal.returns
returns g c lists h given = by_list c.list_at.result c.list_at.ensures
  where
    by_list : (o : Option Name) → o ≡ list_at c.args.x.now c.in-Some.slot.0 → IsListOf c.args.node.number.0 lists o
    by_list None e = no_member (g.St.Store.node_at c.args.g.now.store) c.args.g.now.marks c.requires.numbered c.args.x.now c.requires.listed lists h c.in-Some.slot.0 c.args.node.number.0 c.in-Some.ensures (sym e)
    by_list (Some l) e = listed_in (g.St.Store.node_at c.args.g.now.store) c.args.g.now.marks c.requires.numbered c.args.x.now c.requires.listed lists h c.in-Some.slot.0 c.args.node.number.0 c.in-Some.ensures l (sym e)
