use Rattle.std.proofs.Common.{List, ◌≡◌, ◌∙◌, sym, ap, ◌+◌, ◌<◌, suc, arith, length, ℕ, subst, refl, inl, inr}
use Rattle.std.proofs.lemmas.List.{length-set}
use Rattle.std.proofs.lemmas.Bool.{cases_eq}
use Rattle.std.specs.List.{AllByRecursion}
use Rattle.kj_base.specs.Queue.{Events, disarmed, IsQueue}
use Rattle.kj_base.proofs.QueueLemmas.{disarmed_keeps}
use Rattle.kj_model.specs.Calls.{hubs_of}
use Rattle.promise_nodes.proofs.Hubs.{hubs_without}
use Rattle.promise_graph.specs.Members.{HasMembers}
use Rattle.promise_graph.specs.Slots.{number_of, number_at}
use Rattle.promise_graph.specs.Rings.{ArePaired}
use Rattle.promise_graph.specs.Kept.{IsArmable, hub_of, is_plain_node}
use Rattle.promise_graph.proofs.Lists.{is_some_of}
use Rattle.promise_graph.proofs.Renamed.{left_all}
use Rattle.promise_graph.proofs.Places.{spots_but}
use Rattle.promise_graph.proofs.Cutting.{alone_still}
use Rattle.promise_graph.proofs.Falling.{falls}
use Rattle.promise_graph.proofs.Gone.{other_number, not_slot, still, still_low, still_live, live_slot, numbers_gone, armable, queue_gone, nodes_gone, before}
use Rattle.promise_graph.proofs.Members.{members_gone, members_without, gone_absent}
use Rattle.promise_graph.proofs.Frames.{goes_slot}
use Rattle.promise_graph.proofs.freeing.drop_slot.Goals as goal

pub returns-clause-kept : goal.returns-clause-kept
returns-clause-kept g c =
    let all = c.requires.kept in
    let k = all.sound.numbered in
    let at = g.St.Store.node_at c.args.g.now.store in
    let new = g.St.Store.node_at c.free.new.self in
    let m = c.args.g.now.marks in
    let slot = c.args.slot.0 in
    let n = c.args.n in
    let live = c.requires.live in
    let free = c.free.ensures in
    let q = g.Q.Queue.events c.args.g.now.queue in
    let up : slot + 1 ≡ suc slot = omega arith in
    let queue : g.Q.Queue.events c.disarm.new.self ≡ disarmed (suc slot) q = c.disarm.ensures.disarmed ∙ ap (λ (e : ℕ). disarmed e q) up in
    let low : slot < m.slots = k.low slot (is_some_of (number_at at slot) n live) in
    let within : slot < length m.numbers.items = omega (arith, low, k.all) in
    record {
      sound = record {
        store_is = free.slots ∙ all.sound.store_is;
        numbered = record {
          few = k.few;
          first = k.first;
          low = still_low at new m slot n k live free.freed free.nodes;
          all = rw c.set_number.ensures (length-set m.numbers.items slot 0 ∙ k.all);
          each = rw c.set_number.ensures (numbers_gone at new m slot n k live free.freed free.nodes within);
          given = λ s j h. k.given s j (still at new m slot n k live free.freed free.nodes s j h);
          indexed = λ s j h. k.indexed s j (still at new m slot n k live free.freed free.nodes s j h);
          rising = k.rising;
          below = k.below;
          above = k.above;
          room = k.room;
        };
        events = record {
          size_is = c.disarm.ensures.size ∙ all.sound.events.size_is;
          armed = subst (λ (e : Events). AllByRecursion (IsArmable new) e.list) (sym queue)
              (left_all (IsArmable at) (IsArmable new) (suc slot) (armable at new m slot n k live free.freed free.nodes) q all.sound.events.queue.apart all.sound.events.armed);
          queue = subst IsQueue (sym queue) (disarmed_keeps (suc slot) q all.sound.events.queue);
        };
        paired = subst (λ (j : ℕ). ArePaired c.cut.new.rings j) all.sound.paired.all_next c.cut.ensures.paired;
        single = λ s h e. elim (cases_eq s slot) [
          | inl p ↦ ap (Rattle.promise_graph.specs.Rings.next_at c.cut.new.rings) p ∙ c.cut.ensures.alone ∙ sym p
          | inr d ↦ alone_still m.rings c.cut.new.rings slot m.slots s c.cut.ensures all.sound.paired low (all.sound.single s h (sym (free.nodes s d) ∙ e))
        ];
        tasks_paired = subst (λ (j : ℕ). ArePaired c.cut-2.new.rings j) all.sound.tasks_paired.all_next c.cut-2.ensures.paired;
        hubs_paired = subst (λ (j : ℕ). ArePaired c.cut-3.new.rings j) all.sound.hubs_paired.all_next c.cut-3.ensures.paired;
      };
      owned = record {
        all_owners = all.owned.all_owners;
        bare_is = λ s h e. free.bares s (live_slot at new m slot n k live free.freed free.nodes s h) ∙ all.owned.bare_is s (still_live at new m slot n k live free.freed free.nodes s h) e;
      };
    }

pub returns-clause-stands : goal.returns-clause-stands
returns-clause-stands g c w st =
    let all = c.requires.kept in
    let k = all.sound.numbered in
    let at = g.St.Store.node_at c.args.g.now.store in
    let new = g.St.Store.node_at c.free.new.self in
    let m = c.args.g.now.marks in
    let slot = c.args.slot.0 in
    let n = c.args.n in
    let live = c.requires.live in
    let free = c.free.ensures in
    let q = g.Q.Queue.events c.args.g.now.queue in
    let up : slot + 1 ≡ suc slot = omega arith in
    let queue : g.Q.Queue.events c.disarm.new.self ≡ disarmed (suc slot) q = c.disarm.ensures.disarmed ∙ ap (λ (e : ℕ). disarmed e q) up in
    record {
      seen = record {
        nodes = nodes_gone at new m slot n k live free.freed free.nodes c.cut.new.rings w.nodes c.cut.ensures all.sound.paired c.requires.unlisted st.seen.nodes;
        queue = rw queue (ap (disarmed n) st.seen.queue ∙ queue_gone at new m slot n k live free.freed free.nodes q all.sound.events.queue all.sound.events.armed);
        spots = spots_but at new m slot n k live (other_number at new m slot n k live free.freed free.nodes) _ _ w.next_key w.spots (λ xs h. free.spots xs h) st.seen.spots;
        next_is = st.seen.next_is;
        slots_are = st.seen.slots_are;
        firing_is = st.seen.firing_is;
        awaited_is = st.seen.awaited_is;
        tasks = members_gone at new m _ slot n k (returns-clause-kept g c).sound.numbered live (ap number_of free.freed) (λ s d. ap number_of (free.nodes s d)) m.tasks c.cut-2.new.rings w.detached c.cut-2.ensures all.sound.tasks_paired st.seen.tasks;
        hubs = subst (λ (l : List ℕ). HasMembers c.set_number.new.numbers.items c.cut-3.new.rings m.slots m.next l) (sym (hubs_without n w.nodes))
            (members_without new _ n c.cut-3.new.rings (returns-clause-kept g c).sound.numbered (gone_absent at new m _ slot n k (returns-clause-kept g c).sound.numbered live (ap number_of free.freed) (λ s d. ap number_of (free.nodes s d))) (hubs_of w.nodes)
            (members_gone at new m _ slot n k (returns-clause-kept g c).sound.numbered live (ap number_of free.freed) (λ s d. ap number_of (free.nodes s d)) m.hubs c.cut-3.new.rings (hubs_of w.nodes) c.cut-3.ensures all.sound.hubs_paired st.seen.hubs));
      };
      owned = record {
        owner_is = λ s t j node e h i. st.owned.owner_is s t j node (before at new m slot n k live free.freed free.nodes s node e) (still at new m slot n k live free.freed free.nodes t j h) i;
        below = λ s j node e i. st.owned.below s j node (before at new m slot n k live free.freed free.nodes s node e) i;
      };
    }

pub returns-clause-falls : goal.returns-clause-falls
returns-clause-falls g c =
    let all = c.requires.kept in
    let k = all.sound.numbered in
    let at = g.St.Store.node_at c.args.g.now.store in
    let new = g.St.Store.node_at c.free.new.self in
    let m = c.args.g.now.marks in
    let slot = c.args.slot.0 in
    let n = c.args.n in
    let live = c.requires.live in
    let free = c.free.ensures in
    let low : slot < m.slots = k.low slot (is_some_of (number_at at slot) n live) in
    falls at new m _ k (returns-clause-kept g c).sound.numbered refl refl (λ s j h.
    let d = not_slot at new m slot n k live free.freed free.nodes s j h in
    record {
      number = still at new m slot n k live free.freed free.nodes s j h;
      hub = ap hub_of (free.nodes s d);
      plain = ap is_plain_node (free.nodes s d);
      taker = λ x. x;
      ring = λ moved alone. moved (alone_still m.rings c.cut.new.rings slot m.slots s c.cut.ensures all.sound.paired low alone);
    })

pub returns-clause-goes : goal.returns-clause-goes
returns-clause-goes g c =
    let at = g.St.Store.node_at c.args.g.now.store in
    goes_slot at (g.St.Store.node_at c.free.new.self) c.args.g.now.marks c.args.slot.0 c.args.n c.requires.kept.sound.numbered c.requires.live (ap number_of c.free.ensures.freed) (λ s d. ap number_of (c.free.ensures.nodes s d))
