use Rattle.std.proofs.Common.{◌≡◌, ◌∙◌, subst, sym, ap, ℕ, Some, List}
use Rattle.kj_model.specs.Nodes.{Entry as Seen, form_at}
use Rattle.kj_model.specs.World.{World}
use Rattle.kj_model.specs.Fire.{branches_of}
use Rattle.promise_nodes.specs.Shown.{shown}
use Rattle.promise_nodes.specs.Kept.{KeepsKind, put_form}
use Rattle.promise_graph.specs.Slots.{number_of}
use Rattle.promise_graph.specs.Standing.{Stands}
use Rattle.promise_graph.proofs.Lists.{some_same}
use Rattle.promise_graph.proofs.Entries.{put_nobody}
use Rattle.promise_graph.proofs.Forms.{kind_kept}
use Rattle.std.proofs.lemmas.Bool.{false≢true}
use Rattle.promise_graph.proofs.putting.put.Goals as goal

pub returns-in_default-clause-stands : goal.returns-in_default-clause-stands
returns-in_default-clause-stands g c w st kind adds =
    let now = c.args.g.now in
    let n = c.args.node.number.0 in
    let same : put_form n c.args.form w ≡ w = ap (λ (l : List Seen). record w { nodes = l }) (put_nobody n (shown (branches_of (form_at n w.nodes)) c.args.form) w.nodes (st.seen.nodes.absent n c.in_default.ensures)) in
    subst (λ (v : World). Stands (g.St.Store.node_at now.store) (g.Q.Queue.events now.queue) (g.St.Store.stands now.store) now.marks v) (sym same) st

pub returns-then-is_same_kind-clause-stands : goal.returns-then-is_same_kind-clause-stands
returns-then-is_same_kind-clause-stands g c w st kind adds = c.put_in.ensures.stands w st adds

pub returns-else-is_same_kind-clause-stands : goal.returns-else-is_same_kind-clause-stands
returns-else-is_same_kind-clause-stands g c w st kind adds =
    let at = g.St.Store.node_at c.args.g.now.store in
    let n = c.args.node.number.0 in
    let old = c.get.result.now in
    let number : old.number.0 ≡ n = some_same old.number.0 n (sym (ap number_of c.get.ensures) ∙ c.in-Some.ensures) in
    let found = subst (λ (j : ℕ). form_at j w.nodes ≡ Some (shown (branches_of (form_at j w.nodes)) old.form)) number (st.seen.nodes.there c.in-Some.slot.0 old c.get.ensures) in
    absurd (false≢true (sym c.if-is_same_kind.false ∙ c.is_same_kind.ensures ∙ kind_kept _ old.form c.args.form (subst (KeepsKind c.args.form) found kind)))
