use Rattle.std.proofs.Common.{◌≡◌, ◌∙◌, sym, ap, ℕ, ◌+◌, ◌<◌, arith, length, subst, List, [], ◌∷◌, ◌++◌, Bool, cond, refl, inl, inr}
use Rattle.std.specs.Prelude.{slice_index_or}
use Rattle.std.proofs.lemmas.Bool.{cases_eq}
use Rattle.std.proofs.lemmas.List.{length-set, get_or-set_same, get_or-set_other}
use Rattle.kj_base.specs.declared.nodes.Link.{Link}
use Rattle.kj_base.specs.Store.{slot_number, IsBareOrNone}
use Rattle.kj_model.specs.Calls.{hubs_of}
use Rattle.promise_nodes.specs.Shown.{shown}
use Rattle.promise_nodes.proofs.Hubs.{hubs_more}
use Rattle.promise_graph.specs.Members.{HasMembers}
use Rattle.promise_graph.specs.Rings.{next_at, prev_at}
use Rattle.promise_graph.specs.Kept.{nobody}
use Rattle.promise_graph.proofs.Built.{built_low, built_each, built_given, built_indexed, built_armed, index_rising, index_below, index_above, seen_built, number_live}
use Rattle.promise_graph.specs.Slots.{number_of}
use Rattle.promise_graph.proofs.Members.{members_built, members_more, paired_listed, below_out}
use Rattle.promise_graph.proofs.building.place_node.Goals as goal

pub returns-clause-sound : goal.returns-clause-sound
returns-clause-sound g c =
    let sound = c.requires.sound in
    let k = sound.numbered in
    let at = g.St.Store.node_at c.args.g.now.store in
    let new = g.St.Store.node_at c.place-slot.new.self in
    let m = c.args.g.now.marks in
    let slot = c.place-slot.result.0 in
    let form = c.args.form in
    let put = c.place-slot.ensures in
    let within : slot < m.slots = omega (arith, put.below, put.slots, sound.store_is) in
    let index = m.index.items in
    let items = c.add_entry.ensures.items in
    record {
      store_is = put.slots ∙ sound.store_is;
      numbered = record {
        few = k.few;
        first = omega (arith, k.first);
        low = built_low at new m slot form k put.was_free put.placed put.nodes within;
        all = rw c.set_number.ensures (length-set m.numbers.items slot m.next ∙ k.all);
        each = rw c.set_number.ensures (built_each at new m slot form k put.was_free put.placed put.nodes (omega (arith, within, k.all)));
        given = built_given at new m slot form k put.was_free put.placed put.nodes;
        indexed = rw items (built_indexed at new m slot form k put.was_free put.placed put.nodes);
        rising = rw items (index_rising m.next slot index k.rising k.below);
        below = rw items (index_below m.next slot index k.below);
        above = rw items (index_above m.next slot index k.first k.above);
        room = omega (arith, k.room, c.add_entry.ensures.capacity);
      };
      events = record {
        size_is = sound.events.size_is;
        armed = built_armed at new m slot form k put.was_free put.placed put.nodes _ sound.events.armed;
        queue = sound.events.queue;
      };
      paired = sound.paired;
      single = λ s h e. elim (cases_eq s slot) [
        | inl p ↦ ap (next_at m.rings) p ∙ sound.single slot within put.was_free ∙ sym p
        | inr d ↦ sound.single s h (sym (put.nodes s d) ∙ e)
      ];
      tasks_paired = sound.tasks_paired;
      hubs_paired = paired_listed c.is_hub-is_hub.result m.hubs c.list_if.new.rings slot m.slots (m.slots + 1) c.list_if.ensures sound.hubs_paired;
    }

pub returns-clause-seen : goal.returns-clause-seen
returns-clause-seen g c w st =
    let sound = c.requires.sound in
    let k = sound.numbered in
    let at = g.St.Store.node_at c.args.g.now.store in
    let new = g.St.Store.node_at c.place-slot.new.self in
    let m = c.args.g.now.marks in
    let slot = c.place-slot.result.0 in
    let put = c.place-slot.ensures in
    let within : slot < m.slots = omega (arith, put.below, put.slots, sound.store_is) in
    let alone : next_at m.rings slot ≡ slot = sound.single slot within put.was_free in
    let before = members_built at new m _ slot k (returns-clause-sound g c).numbered (ap number_of put.was_free) (ap number_of put.placed) (λ s d. ap number_of (put.nodes s d)) in
    seen_built at new m slot c.args.form k put.was_free put.placed put.nodes _ _ _ _ (slot_number c.args.before) w refl refl refl refl refl alone (ap (prev_at m.rings) (sym alone) ∙ sound.paired.back slot within)
    (λ s e. number_live at s (g.met.St.Store.bare_live c.args.g.now.store s (subst (IsBareOrNone (g.St.Store.is_bare c.args.g.now.store)) e c.requires.bare))) sound.events.armed put.spots (before m.tasks w.detached st.tasks)
    (subst (λ (l : List ℕ). HasMembers c.set_number.new.numbers.items c.list_if.new.rings m.slots (m.next + 1) l) (sym (hubs_more (record { number = m.next; form = shown [] c.args.form }) w.nodes))
    (subst (λ (b : Bool). HasMembers c.set_number.new.numbers.items c.list_if.new.rings m.slots (m.next + 1) (hubs_of w.nodes ++ cond b (m.next ∷ []) [])) c.is_hub-is_hub.ensures
    (members_more new _ slot m.next (returns-clause-sound g c).numbered (ap number_of put.placed) c.is_hub-is_hub.result m.hubs c.list_if.new.rings (hubs_of w.nodes) c.list_if.ensures sound.hubs_paired (below_out m.next (hubs_of w.nodes) st.hubs.below) (before m.hubs (hubs_of w.nodes) st.hubs)))) st

pub returns-clause-added : goal.returns-clause-added
returns-clause-added g c =
    let sound = c.requires.sound in
    let m = c.args.g.now.marks in
    let slot = c.place-slot.result.0 in
    let put = c.place-slot.ensures in
    let within : slot < m.slots = omega (arith, put.below, put.slots, sound.store_is) in
    let low : slot < length m.owners.items = omega (arith, within, c.requires.owners) in
    record {
      was_free = put.was_free;
      placed = put.placed;
      others = put.nodes;
      bare_here = put.bare;
      bares = put.bares;
      untaken = ap (λ (l : Link). l.number.0) (ap (λ (xs : List Link). slice_index_or xs slot nobody) c.set_taker.ensures ∙ get_or-set_same m.owners.items slot _ nobody low ∙ c.nobody.ensures);
      takers = λ s d. ap (λ (l : Link). l.number.0) (ap (λ (xs : List Link). slice_index_or xs s nobody) c.set_taker.ensures ∙ get_or-set_other m.owners.items slot s _ nobody d);
      all_owners = ap (λ (xs : List Link). length xs) c.set_taker.ensures ∙ length-set m.owners.items slot _ ∙ c.requires.owners;
      rings_are = refl;
      next_is = refl;
      slots_are = refl;
    }
