use Rattle.std.proofs.Common.{◌<◌, ◌∙◌, ap, ℕ, arith, length}
use Rattle.std.specs.Prelude.{slice_set, slice_index_or}
use Rattle.std.proofs.lemmas.List.{get_or-set_same}
use Rattle.kj_base.specs.declared.nodes.Link.{Link}
use Rattle.promise_graph.specs.Kept.{nobody}
use Rattle.promise_graph.specs.Slots.{number_at}
use Rattle.promise_graph.proofs.Lists.{is_some_of}
use Rattle.promise_graph.proofs.Numbered.{one_slot}
use Rattle.promise_graph.proofs.owners.take_part.Goals as goal

pub returns-in-Some-clause-here : goal.returns-in-Some-clause-here
returns-in-Some-clause-here g c s live =
    let k = c.requires.numbered in
    let at = g.St.Store.node_at c.args.store.now in
    let m = c.args.marks.now in
    let slot = c.in-Some.slot.0 in
    let same = one_slot at m k s slot c.args.part.number.0 live c.in-Some.ensures in
    let low = k.low slot (is_some_of (number_at at slot) c.args.part.number.0 c.in-Some.ensures) in
    let within : slot < length m.owners.items = omega (arith, low, c.requires.owners) in
    ap (λ (l : Link). l.number.0) (ap (λ (owners : _). slice_index_or owners s nobody) c.set_taker.ensures ∙ ap (λ (i : ℕ). slice_index_or (slice_set m.owners.items slot c.args.taker) i nobody) same ∙ get_or-set_same m.owners.items slot c.args.taker nobody within)
