use Rattle.std.proofs.Common.{List, ◌≡◌, ◌∙◌, sym, ap, ℕ, ◌<◌, refl, subst, Some, Bool, true, false, not}
use Rattle.std.specs.Prelude.{◌&&◌}
use Rattle.kj_model.specs.Nodes.{Branch, form_at}
use Rattle.kj_model.specs.World.{World}
use Rattle.kj_model.specs.Fire.{branches_of}
use Rattle.promise_nodes.specs.Shown.{shown}
use Rattle.promise_nodes.specs.Kept.{hub_of as hub_in}
use Rattle.promise_nodes.proofs.Hubs.{hubs_left}
use Rattle.promise_graph.specs.Slots.{number_of, number_at}
use Rattle.promise_graph.specs.Rings.{next_at, ArePaired}
use Rattle.promise_graph.specs.Kept.{hub_of, is_there, is_listed_at}
use Rattle.promise_graph.specs.Members.{HasMembers}
use Rattle.promise_graph.specs.Standing.{Stands}
use Rattle.promise_graph.proofs.Lists.{some_same, is_some_of, equal_yes}
use Rattle.promise_graph.proofs.Numbered.{slot_live}
use Rattle.promise_graph.proofs.Falling.{falls}
use Rattle.promise_graph.proofs.Forms.{hub_in_any}
use Rattle.promise_graph.proofs.Put.{node_of}
use Rattle.promise_graph.proofs.Cutting.{alone_still}
use Rattle.promise_graph.proofs.Leaving.{nodes_left, only_nodes}
use Rattle.promise_graph.proofs.hubs.leave_slot.Goals as goal

no_ring : (a b : Bool) → b ≡ true → (a && not b) ≡ false
no_ring true b h = ap not h
no_ring false b h = refl

pub returns : goal.returns
returns g c =
    let all = c.requires.kept in
    let k = all.sound.numbered in
    let at = g.St.Store.node_at c.args.g.now.store in
    let m = c.args.g.now.marks in
    let slot = c.args.slot.0 in
    let n = c.args.branch in
    let live = c.requires.live in
    let r = c.cut.new.rings in
    let cut = c.cut.ensures in
    let low : slot < m.slots = k.low slot (is_some_of (number_at at slot) n live) in
    record {
      kept = record {
        sound = record {
          store_is = all.sound.store_is;
          numbered = record { few = k.few; first = k.first; low = k.low; all = k.all; each = k.each; given = k.given; indexed = k.indexed; rising = k.rising; below = k.below; above = k.above; room = k.room };
          events = all.sound.events;
          paired = subst (λ (j : ℕ). ArePaired r j) all.sound.paired.all_next cut.paired;
          single = λ s h e. alone_still m.rings r slot m.slots s cut all.sound.paired low (all.sound.single s h e);
          tasks_paired = all.sound.tasks_paired;
          hubs_paired = all.sound.hubs_paired;
        };
        owned = record { all_owners = all.owned.all_owners; bare_is = all.owned.bare_is };
      };
      stands = λ w hub st form.
          let node = node_of (at slot) n live in
          let number : node.0.number.0 ≡ n = some_same node.0.number.0 n (sym (ap number_of node.1) ∙ live) in
          let found = subst (λ (j : ℕ). form_at j w.nodes ≡ Some (shown (branches_of (form_at j w.nodes)) node.0.form)) number (st.seen.nodes.there slot node.0 node.1) in
          let of_hub : hub_of (at slot) ≡ Some hub = ap hub_of node.1 ∙ sym (hub_in_any (branches_of (form_at n w.nodes)) node.0.form) ∙ ap hub_in (sym (some_same (Branch hub) _ (sym form ∙ found))) in
          let nodes = nodes_left at m r slot n hub k live of_hub cut all.sound.paired low w st.seen.nodes in
          subst (λ (v : World). Stands at (g.Q.Queue.events c.args.g.now.queue) (g.St.Store.stands c.args.g.now.store) (record m { rings = r }) v) (sym (only_nodes at m r slot n hub k live of_hub cut all.sound.paired low w)) (record {
            seen = record {
              nodes = nodes;
              queue = st.seen.queue;
              spots = st.seen.spots;
              next_is = st.seen.next_is;
              slots_are = st.seen.slots_are;
              firing_is = st.seen.firing_is;
              awaited_is = st.seen.awaited_is;
              tasks = st.seen.tasks;
              hubs = subst (λ (l : List ℕ). HasMembers m.numbers.items m.hubs m.slots m.next l) (sym (hubs_left n hub w st.seen.nodes.once)) st.seen.hubs;
            };
            owned = record { owner_is = st.owned.owner_is; below = st.owned.below };
          });
      numbers = refl;
      unlisted = ap (is_listed_at at (record m { rings = r })) (slot_live at m k slot n live) ∙ no_ring (is_there (hub_of (at slot))) _ (equal_yes (next_at r slot) slot cut.alone);
      falls = falls at at m (record m { rings = r }) k (record { few = k.few; first = k.first; low = k.low; all = k.all; each = k.each; given = k.given; indexed = k.indexed; rising = k.rising; below = k.below; above = k.above; room = k.room }) refl refl (λ s j h. record {
        number = h;
        hub = refl;
        plain = refl;
        taker = λ x. x;
        ring = λ moved alone. moved (alone_still m.rings r slot m.slots s cut all.sound.paired low alone);
      });
    }
