use Rattle.std.proofs.Common.{◌≡◌, ◌∙◌, sym, ap, ℕ, refl, subst, Option, Some, Bool, true, false}
use Rattle.std.specs.Prelude.{◌&&◌}
use Rattle.std.proofs.lemmas.Bool.{false≢true}
use Rattle.kj_model.specs.Nodes.{Branch, form_at}
use Rattle.kj_model.specs.World.{World}
use Rattle.kj_model.specs.Fire.{branches_of}
use Rattle.promise_nodes.specs.Shown.{shown}
use Rattle.promise_nodes.specs.Kept.{hub_of as hub_in}
use Rattle.promise_graph.specs.Slots.{number_of}
use Rattle.promise_graph.specs.Kept.{hub_of, is_hub_node, is_same}
use Rattle.promise_graph.specs.Standing.{Stands}
use Rattle.promise_graph.proofs.Lists.{some_same, equal_yes}
use Rattle.promise_graph.proofs.Forms.{hub_any, hub_in_any}
use Rattle.promise_graph.proofs.Put.{node_of}
use Rattle.promise_graph.proofs.Leaving.{is_hub_there}
use Rattle.promise_graph.proofs.Joining.{joins_none}
use Rattle.promise_graph.proofs.hubs.join_hub.Goals as goal

second_false : (a b : Bool) → a ≡ true → (a && b) ≡ false → b ≡ false
second_false true b h e = e
second_false false b h e = absurd (false≢true h)

pub returns-else-is_branch_of-clause-stands : goal.returns-else-is_branch_of-clause-stands
returns-else-is_branch_of-clause-stands g c w st form =
    let at = g.St.Store.node_at c.args.g.now.store in
    let n = c.args.branch.number.0 in
    let hub = c.args.hub.number.0 in
    let b = c.in-Some.slot.0 in
    let h = c.in-Some-find.hub_slot.0 in
    let one = node_of (at b) n c.in-Some.ensures in
    let two = node_of (at h) hub c.in-Some-find.ensures in
    let one_number : one.0.number.0 ≡ n = some_same one.0.number.0 n (sym (ap number_of one.1) ∙ c.in-Some.ensures) in
    let two_number : two.0.number.0 ≡ hub = some_same two.0.number.0 hub (sym (ap number_of two.1) ∙ c.in-Some-find.ensures) in
    let one_found = subst (λ (j : ℕ). form_at j w.nodes ≡ Some (shown (branches_of (form_at j w.nodes)) one.0.form)) one_number (st.seen.nodes.there b one.0 one.1) in
    let two_found = subst (λ (j : ℕ). form_at j w.nodes ≡ Some (shown (branches_of (form_at j w.nodes)) two.0.form)) two_number (st.seen.nodes.there h two.0 two.1) in
    let of_hub : hub_of (at b) ≡ Some hub = ap hub_of one.1 ∙ sym (hub_in_any _ one.0.form) ∙ ap hub_in (sym (some_same (Branch hub) _ (sym form ∙ one_found))) in
    let same : is_same (hub_of (at b)) (Some hub) ≡ true = ap (λ (o : Option ℕ). is_same o (Some hub)) of_hub ∙ equal_yes hub hub refl in
    let none : is_hub_node (at h) ≡ false = second_false (is_same (hub_of (at b)) (Some hub)) (is_hub_node (at h)) same (sym c.is_branch_of.ensures ∙ c.if-is_branch_of.false) in
    let absent : is_hub_there (form_at hub w.nodes) ≡ false = ap is_hub_there two_found ∙ hub_any _ two.0.form ∙ sym (ap is_hub_node two.1) ∙ none in
    subst (λ (v : World). Stands at (g.Q.Queue.events c.args.g.now.queue) (g.St.Store.stands c.args.g.now.store) c.args.g.now.marks v) (sym (joins_none n hub (form_at hub w.nodes) w absent)) st
