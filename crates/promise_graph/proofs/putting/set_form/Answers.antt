use Rattle.std.proofs.Common.{List, ◌≡◌, ◌∙◌, sym, ap, ℕ, refl, subst, Option, Some, None}
use Rattle.std.specs.Prelude.{IsSome, unwrap_or}
use Rattle.kj_base.specs.declared.nodes.Node.{Node}
use Rattle.promise_graph.specs.Slots.{number_at}
use Rattle.promise_graph.specs.Members.{HasMembers}
use Rattle.promise_graph.specs.Kept.{IsArmable}
use Rattle.promise_graph.proofs.Lists.{none_some}
use Rattle.promise_graph.proofs.Renamed.{all_more}
use Rattle.promise_graph.proofs.Falling.{falls}
use Rattle.promise_graph.proofs.Places.{spots_same}
use Rattle.promise_graph.proofs.Put.{node_of, number_same, hub_same, plain_same, armable_same, queue_same, nodes_put, hubs_same}
use Rattle.promise_graph.proofs.putting.set_form.Goals as goal

still_none : (at new : ℕ → Option Node) (s : ℕ) → number_at new s ≡ number_at at s → new s ≡ None → at s ≡ None
still_none at new s same h = none_case (at s) refl
  where
    none_case : (o : Option Node) → at s ≡ o → at s ≡ None
    none_case None e = e
    none_case (Some node) e = absurd (none_some node.number.0 (sym (ap Rattle.promise_graph.specs.Slots.number_of h) ∙ same ∙ ap Rattle.promise_graph.specs.Slots.number_of e))

pub returns-clause-kept : goal.returns-clause-kept
returns-clause-kept g c =
    let all = c.requires.kept in
    let k = all.sound.numbered in
    let at = g.St.Store.node_at c.args.g.now.store in
    let new = g.St.Store.node_at c.set.new.self in
    let m = c.args.g.now.marks in
    let slot = c.args.slot.0 in
    let n = c.args.n in
    let node : Node = record { number = record { 0 = n }; form = c.args.form } in
    let old = node_of (at slot) n c.requires.live in
    let same = number_same at new m slot n c.args.form node old.0 k c.requires.live refl refl old.1 c.set.ensures.changed c.set.ensures.nodes (c.requires.kind old.0 old.1) in
    record {
      sound = record {
        store_is = c.set.ensures.slots ∙ all.sound.store_is;
        numbered = record {
          few = k.few;
          first = k.first;
          low = λ s h. k.low s (subst (λ (o : Option ℕ). IsSome o) (same s) h);
          all = k.all;
          each = λ s h. k.each s h ∙ ap (λ (o : Option ℕ). unwrap_or o 0) (sym (same s));
          given = λ s j h. k.given s j (sym (same s) ∙ h);
          indexed = λ s j h. k.indexed s j (sym (same s) ∙ h);
          rising = k.rising;
          below = k.below;
          above = k.above;
          room = k.room;
        };
        events = record {
          size_is = all.sound.events.size_is;
          armed = all_more (IsArmable at) (IsArmable new) (armable_same at new m slot n c.args.form node old.0 k c.requires.live refl refl old.1 c.set.ensures.changed c.set.ensures.nodes (c.requires.kind old.0 old.1)) _ all.sound.events.armed;
          queue = all.sound.events.queue;
        };
        paired = all.sound.paired;
        single = λ s h e. all.sound.single s h (still_none at new s (same s) e);
        tasks_paired = all.sound.tasks_paired;
        hubs_paired = all.sound.hubs_paired;
      };
      owned = record {
        all_owners = all.owned.all_owners;
        bare_is = λ s h e. c.set.ensures.bares s ∙ all.owned.bare_is s (subst (λ (o : Option ℕ). IsSome o) (same s) h) e;
      };
    }

pub returns-clause-seen : goal.returns-clause-seen
returns-clause-seen g c w st =
    let k = c.requires.kept.sound.numbered in
    let at = g.St.Store.node_at c.args.g.now.store in
    let new = g.St.Store.node_at c.set.new.self in
    let m = c.args.g.now.marks in
    let slot = c.args.slot.0 in
    let n = c.args.n in
    let node : Node = record { number = record { 0 = n }; form = c.args.form } in
    let old = node_of (at slot) n c.requires.live in
    let kind = c.requires.kind old.0 old.1 in
    record {
      nodes = nodes_put at new m slot n c.args.form node old.0 k c.requires.live refl refl old.1 c.set.ensures.changed c.set.ensures.nodes kind w.nodes st.nodes;
      queue = st.queue ∙ queue_same at new m slot n c.args.form node old.0 k c.requires.live refl refl old.1 c.set.ensures.changed c.set.ensures.nodes kind _;
      spots = spots_same at new _ _ m.next w.next_key w.spots (number_same at new m slot n c.args.form node old.0 k c.requires.live refl refl old.1 c.set.ensures.changed c.set.ensures.nodes kind) (λ xs h. c.set.ensures.spots xs h) st.spots;
      next_is = st.next_is;
      slots_are = st.slots_are;
      firing_is = st.firing_is;
      awaited_is = st.awaited_is;
      tasks = st.tasks;
      hubs = subst (λ (l : List ℕ). HasMembers m.numbers.items m.hubs m.slots m.next l) (sym (hubs_same at new m slot n c.args.form node old.0 k c.requires.live refl refl old.1 c.set.ensures.changed c.set.ensures.nodes kind w.nodes st.nodes)) st.hubs;
    }

pub returns-clause-falls : goal.returns-clause-falls
returns-clause-falls g c =
    let all = c.requires.kept in
    let k = all.sound.numbered in
    let at = g.St.Store.node_at c.args.g.now.store in
    let new = g.St.Store.node_at c.set.new.self in
    let m = c.args.g.now.marks in
    let slot = c.args.slot.0 in
    let n = c.args.n in
    let node : Node = record { number = record { 0 = n }; form = c.args.form } in
    let old = node_of (at slot) n c.requires.live in
    let kind = c.requires.kind old.0 old.1 in
    falls at new m m k (returns-clause-kept g c).sound.numbered refl refl (λ s j h. record {
      number = sym (number_same at new m slot n c.args.form node old.0 k c.requires.live refl refl old.1 c.set.ensures.changed c.set.ensures.nodes kind s) ∙ h;
      hub = hub_same at new m slot n c.args.form node old.0 k c.requires.live refl refl old.1 c.set.ensures.changed c.set.ensures.nodes kind s;
      plain = plain_same at new m slot n c.args.form node old.0 k c.requires.live refl refl old.1 c.set.ensures.changed c.set.ensures.nodes kind s;
      taker = λ x. x;
      ring = λ x. x;
    })
