use Rattle.std.proofs.Common.{◌≡◌, ◌∙◌, sym, ap, ℕ, subst, Some, None, true, []}
use Rattle.std.specs.Prelude.{◌==◌, slice_index_or, if◌then◌else◌}
use Rattle.kj_model.specs.Nodes.{form_at}
use Rattle.kj_model.specs.Fire.{branches_of}
use Rattle.promise_nodes.specs.Shown.{shown}
use Rattle.promise_nodes.specs.Kept.{is_hub}
use Rattle.promise_graph.specs.Slots.{number_of}
use Rattle.promise_graph.specs.Standing.{HasRing}
use Rattle.promise_graph.proofs.Lists.{some_same}
use Rattle.promise_graph.proofs.Branches.{first_of_ring}
use Rattle.promise_graph.proofs.hubs.first_branch.Goals as goal

pub returns-then-is_hub : goal.returns-then-is_hub
returns-then-is_hub g c w st =
    let at = g.St.Store.node_at c.args.g.now.store in
    let m = c.args.g.now.marks in
    let n = c.args.hub.number.0 in
    let slot = c.in-Some.slot.0 in
    let node = c.get.result.now in
    let number : node.number.0 ≡ n = some_same node.number.0 n (sym (ap number_of c.get.ensures) ∙ c.in-Some.ensures) in
    let hub : is_hub (shown [] node.form) ≡ true = sym c.is_hub.ensures ∙ c.if-is_hub.true in
    let ring = subst (λ (j : ℕ). HasRing at m.rings slot j (branches_of (form_at j w.nodes))) number (st.seen.nodes.rings slot node c.get.ensures hub) in
    c.branch_in.ensures
    ∙ ap (λ (s : ℕ). if slice_index_or m.numbers.items s 0 == n then None else Some (slice_index_or m.numbers.items s 0)) c.behind.ensures
    ∙ first_of_ring at m slot n c.requires.sound.numbered c.in-Some.ensures (branches_of (form_at n w.nodes)) ring
