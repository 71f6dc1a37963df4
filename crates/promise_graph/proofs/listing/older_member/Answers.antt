use Rattle.std.proofs.Common.{◌∙◌, ap, sym}
use Rattle.std.proofs.lemmas.Bool.{false≢true}
use Rattle.kj_model.specs.Nodes.{is_in}
use Rattle.promise_graph.proofs.Members.{given_absent}
use Rattle.promise_graph.proofs.Listings.{no_member, older_is, in_middle}
use Rattle.promise_graph.proofs.listing.older_member.Goals as goal

pub returns-in_default : goal.returns-in_default
returns-in_default g c lists list front back h given are = absurd (false≢true (sym (given_absent (g.St.Store.node_at c.args.g.now.store) c.args.g.now.marks c.requires.numbered c.args.node.number.0 c.in_default.ensures) ∙ given))

pub returns-in_default-list_at : goal.returns-in_default-list_at
returns-in_default-list_at g c lists list front back h given are =
    let n = c.args.node.number.0 in
    absurd (false≢true (
    sym (no_member (g.St.Store.node_at c.args.g.now.store) c.args.g.now.marks c.requires.numbered c.args.x.now c.requires.listed lists h c.in-Some.slot.0 n c.in-Some.ensures (sym c.list_at.ensures ∙ c.in_default-list_at.is) list)
    ∙ ap (is_in n) are
    ∙ in_middle front n back
    ))

pub returns : goal.returns
returns g c lists list front back h given are =
    c.node_in.ensures
    ∙ older_is (g.St.Store.node_at c.args.g.now.store) c.args.g.now.marks c.requires.numbered c.args.x.now c.requires.listed lists h c.in-Some.slot.0 c.args.node.number.0 c.in-Some.ensures c.in-Some-list_at.list list front back c.older.result (sym c.list_at.ensures ∙ c.in-Some-list_at.is) are c.older.ensures
