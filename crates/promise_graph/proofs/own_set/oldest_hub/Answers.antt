use Rattle.std.proofs.Common.{◌∙◌, ap, ℕ, Some, None}
use Rattle.std.specs.Prelude.{nat_lt, slice_index_or, if◌then◌else◌}
use Rattle.promise_graph.proofs.Members.{oldest_is}
use Rattle.promise_graph.proofs.own_set.oldest_hub.Goals as goal

pub returns : goal.returns
returns g c w st =
    let m = c.args.g.now.marks in
    c.member_in.ensures
    ∙ ap (λ (j : ℕ). if nat_lt j m.slots then Some (slice_index_or m.numbers.items j 0) else None) c.behind.ensures
    ∙ oldest_is (g.St.Store.node_at c.args.g.now.store) m c.requires.sound.numbered w.nodes st.seen.nodes st.seen.hubs
