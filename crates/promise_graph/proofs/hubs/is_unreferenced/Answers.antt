use Rattle.std.proofs.Common.{◌≡◌, ◌∙◌, sym, ap, ℕ, subst, Some, true, []}
use Rattle.std.specs.Prelude.{◌==◌}
use Rattle.kj_base.specs.declared.nodes.Form.{Form as FormCase}
use Rattle.kj_base.specs.declared.nodes.Form.TheVariants.{Hub as HubCase}
use Rattle.kj_model.specs.Nodes.{form_at}
use Rattle.kj_model.specs.Fire.{branches_of}
use Rattle.promise_nodes.specs.Shown.{shown}
use Rattle.promise_nodes.specs.Kept.{is_unreferenced, is_hub}
use Rattle.promise_graph.specs.Slots.{number_of}
use Rattle.promise_graph.specs.Named.{is_nameless}
use Rattle.promise_graph.proofs.Lists.{some_same}
use Rattle.promise_graph.proofs.Branches.{unreferenced_alone}
use Rattle.std.proofs.lemmas.Bool.{false≢true}
use Rattle.promise_graph.proofs.hubs.is_unreferenced.Goals as goal

hub_of_nameless : (form : FormCase) → is_nameless (shown [] form) ≡ true → is_hub (shown [] form) ≡ true
hub_of_nameless (HubCase content is_named) h = λ i. true
hub_of_nameless other h = absurd (false≢true h)

pub returns-then-is_nameless : goal.returns-then-is_nameless
returns-then-is_nameless g c w st =
    let at = g.St.Store.node_at c.args.g.now.store in
    let m = c.args.g.now.marks in
    let n = c.args.hub.number.0 in
    let slot = c.in-Some.slot.0 in
    let node = c.get.result.now in
    let number : node.number.0 ≡ n = some_same node.number.0 n (sym (ap number_of c.get.ensures) ∙ c.in-Some.ensures) in
    let nameless : is_nameless (shown [] node.form) ≡ true = sym c.is_nameless.ensures ∙ c.if-is_nameless.true in
    let found = subst (λ (j : ℕ). form_at j w.nodes ≡ Some (shown (branches_of (form_at j w.nodes)) node.form)) number (st.seen.nodes.there slot node c.get.ensures) in
    let ring = st.seen.nodes.rings slot node c.get.ensures (hub_of_nameless node.form nameless) in
    ap (λ (s : ℕ). s == slot) c.behind.ensures
    ∙ unreferenced_alone at m slot node.number.0 (branches_of (form_at node.number.0 w.nodes)) node.form ring nameless
    ∙ ap is_unreferenced (ap (λ (j : ℕ). Some (shown (branches_of (form_at j w.nodes)) node.form)) number ∙ sym found)
