use Rattle.std.proofs.Common.{◌∙◌, sym}
use Rattle.std.proofs.lemmas.Bool.{false≢true}
use Rattle.promise_graph.proofs.Members.{given_absent}
use Rattle.promise_graph.proofs.Listings.{joined, listed_in}
use Rattle.promise_graph.proofs.listing.join_list.Goals as goal

pub returns-in_default-clause-members : goal.returns-in_default-clause-members
returns-in_default-clause-members g c lists h given none = absurd (false≢true (sym (given_absent (g.St.Store.node_at c.args.g.now.store) c.args.g.now.marks c.requires.numbered c.args.node.number.0 c.in_default.ensures) ∙ given))

pub returns-in-None-clause-members : goal.returns-in-None-clause-members
returns-in-None-clause-members g c lists h given none = joined (g.St.Store.node_at c.args.g.now.store) c.args.g.now.marks c.requires.numbered c.args.x.now c.requires.listed lists h c.in-Some.slot.0 c.args.node.number.0 c.in-Some.ensures c.join.new.x c.args.list c.join.ensures.joined none

pub returns-in-Some-list_at-clause-members : goal.returns-in-Some-list_at-clause-members
returns-in-Some-list_at-clause-members g c lists h given none = absurd (false≢true (sym (none c.in-Some-list_at.field-0.0) ∙ listed_in (g.St.Store.node_at c.args.g.now.store) c.args.g.now.marks c.requires.numbered c.args.x.now c.requires.listed lists h c.in-Some.slot.0 c.args.node.number.0 c.in-Some.ensures c.in-Some-list_at.field-0 (sym c.list_at.ensures ∙ c.in-Some-list_at.is)))
