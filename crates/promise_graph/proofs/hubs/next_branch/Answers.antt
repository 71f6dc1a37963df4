use Rattle.std.proofs.Common.{◌≡◌, ◌∙◌, sym, ap, ℕ, Some, None}
use Rattle.std.specs.Prelude.{◌==◌, slice_index_or, if◌then◌else◌}
use Rattle.kj_base.specs.Queue.{first_of}
use Rattle.kj_model.specs.Fire.{branches_of}
use Rattle.kj_model.specs.Nodes.{form_at}
use Rattle.promise_nodes.specs.Shown.{link_number}
use Rattle.promise_graph.specs.Kept.{hub_of}
use Rattle.promise_graph.proofs.Lists.{some_same, none_some}
use Rattle.promise_graph.proofs.Numbered.{one_slot}
use Rattle.promise_graph.proofs.Branches.{ring_of, member_of_ring, next_of_ring}
use Rattle.promise_graph.proofs.hubs.next_branch.Goals as goal

pub returns-in_default : goal.returns-in_default
returns-in_default g c w hub front back st same =
    let at = g.St.Store.node_at c.args.g.now.store in
    let m = c.args.g.now.marks in
    let nb = c.args.branch.number.0 in
    ring_of (link_number None ≡ first_of back) at m w.nodes hub nb front back c.requires.sound.numbered st.seen.nodes same (λ h live ring.
    member_of_ring (link_number None ≡ first_of back) at m h hub nb (branches_of (form_at hub w.nodes)) front back ring same (λ x there is. absurd (c.in_default.ensures x there)))

pub returns-in_default-hub_of : goal.returns-in_default-hub_of
returns-in_default-hub_of g c w hub front back st same =
    let at = g.St.Store.node_at c.args.g.now.store in
    let m = c.args.g.now.marks in
    let nb = c.args.branch.number.0 in
    let k = c.requires.sound.numbered in
    ring_of (link_number None ≡ first_of back) at m w.nodes hub nb front back k st.seen.nodes same (λ h live ring.
    member_of_ring (link_number None ≡ first_of back) at m h hub nb (branches_of (form_at hub w.nodes)) front back ring same (λ x there is.
    absurd (none_some hub (c.in_default-hub_of.ensures ∙ ap hub_of (sym c.get.ensures) ∙ ap (λ (i : ℕ). hub_of (at i)) (one_slot at m k c.in-Some.slot.0 x nb c.in-Some.ensures there) ∙ is))))

pub returns : goal.returns
returns g c w hub front back st same =
    let at = g.St.Store.node_at c.args.g.now.store in
    let m = c.args.g.now.marks in
    let nb = c.args.branch.number.0 in
    let k = c.requires.sound.numbered in
    let slot = c.in-Some.slot.0 in
    ring_of (link_number c.branch_in.result ≡ first_of back) at m w.nodes hub nb front back k st.seen.nodes same (λ h live ring.
    member_of_ring (link_number c.branch_in.result ≡ first_of back) at m h hub nb (branches_of (form_at hub w.nodes)) front back ring same (λ x there is.
    let own : c.in-Some-hub_of.hub ≡ hub = some_same c.in-Some-hub_of.hub hub (c.in-Some-hub_of.ensures ∙ ap hub_of (sym c.get.ensures) ∙ ap (λ (i : ℕ). hub_of (at i)) (one_slot at m k slot x nb c.in-Some.ensures there) ∙ is) in
    c.branch_in.ensures
    ∙ ap (λ (s : ℕ). if slice_index_or m.numbers.items s 0 == c.in-Some-hub_of.hub then None else Some (slice_index_or m.numbers.items s 0)) c.behind.ensures
    ∙ ap (λ (j : ℕ). if slice_index_or m.numbers.items (Rattle.promise_graph.specs.Rings.next_at m.rings slot) 0 == j then None else Some (slice_index_or m.numbers.items (Rattle.promise_graph.specs.Rings.next_at m.rings slot) 0)) own
    ∙ next_of_ring at m h hub k live nb slot (branches_of (form_at hub w.nodes)) front back ring same c.in-Some.ensures))
