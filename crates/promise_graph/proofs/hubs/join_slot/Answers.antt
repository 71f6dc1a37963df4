use Rattle.std.proofs.Common.{List, ◌≡◌, ◌≢◌, ◌∙◌, sym, ap, ℕ, ◌<◌, refl, subst, Some, Bool, true, false, [], ◌∷◌}
use Rattle.std.specs.Prelude.{◌||◌}
use Rattle.std.proofs.lemmas.Bool.{false≢true}
use Rattle.kj_model.specs.Nodes.{form_at, is_in}
use Rattle.kj_model.specs.World.{World}
use Rattle.kj_model.specs.Fire.{branches_of}
use Rattle.promise_nodes.specs.Shown.{shown}
use Rattle.promise_nodes.proofs.Hubs.{hubs_joined}
use Rattle.promise_graph.specs.Slots.{number_of, number_at}
use Rattle.promise_graph.specs.Kept.{hub_of, is_there, is_hub_node, is_same, is_listed}
use Rattle.promise_graph.specs.Members.{HasMembers}
use Rattle.promise_graph.specs.Standing.{Stands}
use Rattle.promise_graph.proofs.Lists.{some_same, is_some_of, equal_yes, first_of_both, second_of_both}
use Rattle.promise_graph.proofs.Falling.{unlisted, listed_in, listed_out}
use Rattle.promise_graph.proofs.Forms.{same_number, hub_any}
use Rattle.promise_graph.proofs.Put.{node_of}
use Rattle.promise_graph.proofs.Leaving.{is_hub_there}
use Rattle.promise_graph.proofs.Joining.{nodes_joined, only_joined, alone_joined}
use Rattle.promise_graph.proofs.hubs.join_slot.Goals as goal

pub join-requires-clause-alone : goal.join-requires-clause-alone
join-requires-clause-alone g c =
    let at = g.St.Store.node_at c.args.g.now.store in
    let is = same_number (hub_of (at c.args.slot.0)) (Some c.args.hub) (first_of_both _ _ c.requires.is) in
    unlisted at c.args.g.now.marks c.requires.kept.sound.numbered c.args.slot.0 c.args.branch c.requires.live c.requires.unlisted (ap is_there is)

pub returns-clause-stands : goal.returns-clause-stands
returns-clause-stands g c w st =
    let all = c.requires.kept in
    let k = all.sound.numbered in
    let at = g.St.Store.node_at c.args.g.now.store in
    let m = c.args.g.now.marks in
    let r = c.join.new.rings in
    let b = c.args.slot.0 in
    let h = c.args.hub_slot.0 in
    let n = c.args.branch in
    let hub = c.args.hub in
    let is = same_number (hub_of (at b)) (Some hub) (first_of_both _ _ c.requires.is) in
    let one = second_of_both (is_same (hub_of (at b)) (Some hub)) (is_hub_node (at h)) c.requires.is in
    let alone = unlisted at m k b n c.requires.live c.requires.unlisted (ap is_there is) in
    let low : h < m.slots = k.low h (is_some_of (number_at at h) hub c.requires.hub_live) in
    let node = node_of (at h) hub c.requires.hub_live in
    let number : node.0.number.0 ≡ hub = some_same node.0.number.0 hub (sym (ap number_of node.1) ∙ c.requires.hub_live) in
    let found = subst (λ (j : ℕ). form_at j w.nodes ≡ Some (shown (branches_of (form_at j w.nodes)) node.0.form)) number (st.seen.nodes.there h node.0 node.1) in
    let there : is_hub_there (form_at hub w.nodes) ≡ true = ap is_hub_there found ∙ hub_any _ node.0.form ∙ sym (ap is_hub_node node.1) ∙ one in
    subst (λ (v : World). Stands at (g.Q.Queue.events c.args.g.now.queue) (g.St.Store.stands c.args.g.now.store) (record m { rings = r }) v) (sym (only_joined at m r b n h hub k c.requires.live c.requires.hub_live is one c.join.ensures all.sound.paired low alone w there)) (record {
      seen = record {
        nodes = nodes_joined at m r b n h hub k c.requires.live c.requires.hub_live is one c.join.ensures all.sound.paired low alone w there st.seen.nodes;
        queue = st.seen.queue;
        spots = st.seen.spots;
        next_is = st.seen.next_is;
        slots_are = st.seen.slots_are;
        firing_is = st.seen.firing_is;
        awaited_is = st.seen.awaited_is;
        tasks = st.seen.tasks;
        hubs = subst (λ (l : List ℕ). HasMembers m.numbers.items m.hubs m.slots m.next l) (sym (hubs_joined n hub w st.seen.nodes.once)) st.seen.hubs;
      };
      owned = record { owner_is = st.owned.owner_is; below = st.owned.below };
    })

pub returns-clause-rises : goal.returns-clause-rises
returns-clause-rises g c =
    let all = c.requires.kept in
    let k = all.sound.numbered in
    let at = g.St.Store.node_at c.args.g.now.store in
    let m = c.args.g.now.marks in
    let r = c.join.new.rings in
    let b = c.args.slot.0 in
    let h = c.args.hub_slot.0 in
    let n = c.args.branch in
    let hub = c.args.hub in
    let is = same_number (hub_of (at b)) (Some hub) (first_of_both _ _ c.requires.is) in
    let one = second_of_both (is_same (hub_of (at b)) (Some hub)) (is_hub_node (at h)) c.requires.is in
    let alone = unlisted at m k b n c.requires.live c.requires.unlisted (ap is_there is) in
    let low : h < m.slots = k.low h (is_some_of (number_at at h) hub c.requires.hub_live) in
    record {
      taken = λ j t. t;
      listed = λ j t out. listed_out (is_listed at m j ≡ true) at (record m { rings = r }) (record { few = k.few; first = k.first; low = k.low; all = k.all; each = k.each; given = k.given; indexed = k.indexed; rising = k.rising; below = k.below; above = k.above; room = k.room }) j t (λ s l there d.
          let x : s ≢ b = (λ q. not_in n j (some_same n j (sym c.requires.live ∙ ap (number_at at) (sym q) ∙ l)) out) in
          listed_in at m k s j l there (λ e. d (alone_joined at m r b n h hub k c.requires.live c.requires.hub_live is one c.join.ensures all.sound.paired low alone s there x e)));
      plain = λ j t. t;
      next_is = refl;
      slots_are = refl;
    }
  where
    not_in : (n j : ℕ) → n ≡ j → is_in j (n ∷ []) ≡ false → ⊥
    not_in n j e out = false≢true (sym out ∙ ap (λ (t : Bool). t || false) (equal_yes n j e))
