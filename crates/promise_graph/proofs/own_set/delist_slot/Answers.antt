use Rattle.std.proofs.Common.{ℕ, refl, subst}
use Rattle.promise_graph.specs.Rings.{ArePaired}
use Rattle.promise_graph.proofs.Members.{members_cut}
use Rattle.promise_graph.proofs.own_set.delist_slot.Goals as goal

pub returns : goal.returns
returns g c =
    let all = c.requires.kept in
    let k = all.sound.numbered in
    let at = g.St.Store.node_at c.args.g.now.store in
    let m = c.args.g.now.marks in
    record {
      kept = record {
        sound = record {
          store_is = all.sound.store_is;
          numbered = record { few = k.few; first = k.first; low = k.low; all = k.all; each = k.each; given = k.given; indexed = k.indexed; rising = k.rising; below = k.below; above = k.above; room = k.room };
          events = all.sound.events;
          paired = all.sound.paired;
          single = all.sound.single;
          tasks_paired = subst (λ (j : ℕ). ArePaired c.cut.new.rings j) all.sound.tasks_paired.all_next c.cut.ensures.paired;
          hubs_paired = all.sound.hubs_paired;
        };
        owned = record { all_owners = all.owned.all_owners; bare_is = all.owned.bare_is };
      };
      stands = λ w st. record {
        seen = record {
          nodes = st.seen.nodes;
          queue = st.seen.queue;
          spots = st.seen.spots;
          next_is = st.seen.next_is;
          slots_are = st.seen.slots_are;
          firing_is = st.seen.firing_is;
          awaited_is = st.seen.awaited_is;
          tasks = members_cut at m c.args.slot.0 c.args.n k c.requires.live m.tasks c.cut.new.rings w.detached c.cut.ensures all.sound.tasks_paired st.seen.tasks;
          hubs = st.seen.hubs;
        };
        owned = record { owner_is = st.owned.owner_is; below = st.owned.below };
      };
      numbers = refl;
      falls = record { taken = λ j t. t; listed = λ j t. t; plain = λ j t. t; next_is = refl; slots_are = refl };
    }
