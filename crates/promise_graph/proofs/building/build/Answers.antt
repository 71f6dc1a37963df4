use Rattle.std.proofs.Common.{◌≡◌, ◌∙◌, sym, ap, ◌+◌, ◌<◌, ◌^◌, length, ℕ, subst, List, Option, [], ◌∷◌}
use Rattle.std.specs.Prelude.{IsTrue, if◌then◌else◌}
use Rattle.kj_base.specs.Places.{row}
use Rattle.kj_base.specs.Store.{slot_number}
use Rattle.kj_model.specs.Nodes.{is_in}
use Rattle.promise_nodes.specs.Shown.{link_number}
use Rattle.promise_graph.specs.declared.fields.Marks.{Marks}
use Rattle.promise_graph.specs.Slots.{number_of}
use Rattle.promise_graph.specs.Kept.{taker_at, form_parts, is_taken, is_listed}
use Rattle.promise_graph.proofs.Adding.{Facts, sound_index, seen_index, added_index, before_slot_is, bare_before, kept_last, stands_last, taken_last, listed_last, plain_last, next_last, slots_last, root_last, rest_last, anew_last, unlisted_last}
use Rattle.promise_graph.proofs.building.build.Goals as goal

pub place_node-slot-requires : goal.place_node-slot-requires
place_node-slot-requires g c =
    let kept = c.requires.kept in
    let at = g.St.Store.node_at c.args.g.now.store in
    let m = c.args.g.now.marks in
    let same = c.make_room.ensures.others in
    let found = c.find_before-slot_before.ensures in
    record {
      sound = sound_index at _ _ _ m c.make_room.new.marks same c.make_room.ensures.numbered kept.sound;
      owners = ap (λ (x : Marks). length x.owners.items) same ∙ kept.owned.all_owners ∙ sym (ap (λ (x : Marks). x.slots) same);
      bare = bare_before at _ m _ (link_number c.args.before) _ kept.sound.numbered kept.owned c.requires.before c.requires.roots found;
      fits = subst (λ (o : Option ℕ). IsTrue (g.St.Store.room c.args.g.now.store (row o 1 ∷ []))) (sym (before_slot_is at m kept.sound.numbered (link_number c.args.before) _ found)) c.requires.fits;
      numbers = subst (λ (n : ℕ). n < 2 ^ 63 + 9) (sym (ap (λ (x : Marks). x.next) same)) c.requires.numbers;
      room = c.make_room.ensures.room;
    }

pub returns : goal.returns
returns g c =
    let kept = c.requires.kept in
    let at = g.St.Store.node_at c.args.g.now.store in
    let m = c.args.g.now.marks in
    let same = c.make_room.ensures.others in
    let next : c.make_room.new.marks.next ≡ m.next = ap (λ (x : Marks). x.next) same in
    let placed = c.place_node-slot.new.g in
    let new = g.St.Store.node_at placed.store in
    let last = c.take_parts.new.marks in
    let facts : Facts at new (g.St.Store.is_bare c.args.g.now.store) (g.St.Store.is_bare placed.store) (g.Q.Queue.events c.args.g.now.queue) (g.Q.Queue.events placed.queue) (g.St.Store.slots c.args.g.now.store) (g.St.Store.slots placed.store) (g.Q.Queue.size c.args.g.now.queue) (g.Q.Queue.size placed.queue) m placed.marks last (link_number c.args.before) (slot_number c.find_before-slot_before.result) c.place_node-slot.result.0 c.args.form = record {
      kept = kept;
      found = c.find_before-slot_before.ensures;
      part = c.requires.before;
      roots = c.requires.roots;
      given = c.requires.built;
      added = added_index at new _ _ m c.make_room.new.marks placed.marks _ c.place_node-slot.result.0 c.args.form same c.place_node-slot.ensures.added;
      sound = c.place_node-slot.ensures.sound;
      same = c.take_parts.ensures.others;
      all = c.take_parts.ensures.all;
      takers = λ s n h. c.take_parts.ensures.takers s n h ∙ ap (λ (ns : List ℕ). if is_in n ns then c.make_room.new.marks.next else taker_at placed.marks s) (sym c.parts-parts.ensures) ∙ ap (λ (j : ℕ). if is_in n (form_parts c.args.form) then j else taker_at placed.marks s) next;
    } in
    record {
      kept = kept_last at new _ _ _ _ _ _ _ _ m placed.marks last _ _ c.place_node-slot.result.0 c.args.form facts;
      stands = λ w st. stands_last at new _ _ _ _ _ _ _ _ m placed.marks last _ _ c.place_node-slot.result.0 c.args.form facts _ _ w st (c.place_node-slot.ensures.seen w (seen_index at _ _ m c.make_room.new.marks w same st.seen));
      number = next;
      comes = record { slot = c.place_node-slot.result.0; free = ap number_of facts.added.was_free; here = ap number_of facts.added.placed; others = λ s d. ap number_of (facts.added.others s d) };
      next = next_last at new _ _ _ _ _ _ _ _ m placed.marks last _ _ c.place_node-slot.result.0 c.args.form facts;
      slots = slots_last at new _ _ _ _ _ _ _ _ m placed.marks last _ _ c.place_node-slot.result.0 c.args.form facts;
      root = ap (is_taken last) next ∙ root_last at new _ _ _ _ _ _ _ _ m placed.marks last _ _ c.place_node-slot.result.0 c.args.form facts;
      anew = λ w st. anew_last at new _ _ _ _ _ _ _ _ m placed.marks last _ _ c.place_node-slot.result.0 c.args.form facts w.nodes st.seen.nodes;
      unlisted = ap (is_listed new last) next ∙ unlisted_last at new _ _ _ _ _ _ _ _ m placed.marks last _ _ c.place_node-slot.result.0 c.args.form facts;
      taken = taken_last at new _ _ _ _ _ _ _ _ m placed.marks last _ _ c.place_node-slot.result.0 c.args.form facts;
      listed = listed_last at new _ _ _ _ _ _ _ _ m placed.marks last _ _ c.place_node-slot.result.0 c.args.form facts;
      plain = plain_last at new _ _ _ _ _ _ _ _ m placed.marks last _ _ c.place_node-slot.result.0 c.args.form facts;
      rest = rest_last at new _ _ _ _ _ _ _ _ m placed.marks last _ _ c.place_node-slot.result.0 c.args.form facts (g.St.Store.room c.args.g.now.store) (g.St.Store.room placed.store) c.place_node-slot.ensures.rest;
    }
