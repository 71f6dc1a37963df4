use Rattle.std.proofs.Common.{◌≡◌, ◌≢◌, ◌∙◌, sym, ap, ℕ, subst, Option, Some, List, inl, inr}
use Rattle.std.specs.List.{AllByRecursion}
use Rattle.std.proofs.lemmas.Bool.{cases_eq}
use Rattle.kj_base.specs.Queue.{Events, IsQueue, disarmed}
use Rattle.kj_base.proofs.QueueLemmas.{disarmed_keeps}
use Rattle.kj_base.specs.Places.{Spot}
use Rattle.kj_base.specs.declared.nodes.Node.{Node}
use Rattle.kj_model.specs.Nodes.{Form, Entry as Seen, form_at, without}
use Rattle.kj_model.specs.Fire.{branches_of}
use Rattle.kj_model.specs.World.{World}
use Rattle.kj_model.specs.Calls.{hubs_of}
use Rattle.kj_model.specs.Changes.{gone_world}
use Rattle.promise_nodes.specs.Shown.{shown}
use Rattle.promise_graph.specs.declared.fields.Marks.{Marks}
use Rattle.promise_graph.specs.declared.fields.Rings.{Rings}
use Rattle.promise_nodes.proofs.Hubs.{hubs_without}
use Rattle.promise_graph.specs.Members.{HasMembers}
use Rattle.promise_graph.proofs.Members.{members_without}
use Rattle.promise_graph.specs.Slots.{number_of, IsAbsent}
use Rattle.promise_graph.specs.Kept.{IsArmable, AreNumbered}
use Rattle.promise_graph.specs.Standing.{event_name, events_as, HasNodes, HasRing, Stands}
use Rattle.promise_graph.proofs.Renamed.{disarmed_by, left_all}
use Rattle.promise_graph.proofs.Naming.{apart_events, kept_queue, absent_unarmed}
use Rattle.promise_graph.proofs.Entries.{without_other, without_same, once_without}
use Rattle.promise_graph.proofs.Places.{spots_absent}
use Rattle.promise_graph.proofs.Frames.{goes_absent}
use Rattle.promise_graph.proofs.freeing.drop_absent.Goals as goal

other : (at : ℕ → Option Node) (n s : ℕ) (node : Node) → IsAbsent at n → at s ≡ Some node → node.number.0 ≢ n
other at n s node a h same = a s (ap number_of h ∙ ap (λ (j : ℕ). Some j) same)

nodes : (at : ℕ → Option Node) (r : Rings) (n : ℕ) (es : List Seen) → IsAbsent at n → HasNodes at r es → HasNodes at r (without n es)
nodes at r n es a h = record {
  there = λ s node e.
      let same = without_other node.number.0 n es (other at n s node a e) in
      same ∙ h.there s node e ∙ ap (λ (o : Option Form). Some (shown (branches_of o) node.form)) (sym same);
  absent = λ j b. elim (cases_eq j n) [
    | inl p ↦ ap (λ (i : ℕ). form_at i (without n es)) p ∙ without_same n es
    | inr d ↦ without_other j n es d ∙ h.absent j b
  ];
  once = once_without n es h.once;
  rings = λ s node e t. subst (λ (o : Option Form). HasRing at r s node.number.0 (branches_of o)) (sym (without_other node.number.0 n es (other at n s node a e))) (h.rings s node e t);
}

stands : (at : ℕ → Option Node) (q r : Events) (sp : List Spot → Type 0) (m : Marks) (n : ℕ) (w : World) → AreNumbered at m → IsAbsent at n → disarmed n (events_as (event_name at m.next) q) ≡ events_as (event_name at m.next) r → Stands at q sp m w → Stands at r sp m (gone_world n w)
stands at q r sp m n w k a queue st = record {
  seen = record {
    nodes = nodes at m.rings n w.nodes a st.seen.nodes;
    queue = ap (disarmed n) st.seen.queue ∙ queue;
    spots = spots_absent at sp m.next n w.next_key w.spots a st.seen.spots;
    next_is = st.seen.next_is;
    slots_are = st.seen.slots_are;
    firing_is = st.seen.firing_is;
    awaited_is = st.seen.awaited_is;
    tasks = st.seen.tasks;
    hubs = subst (λ (l : List ℕ). HasMembers m.numbers.items m.hubs m.slots m.next l) (sym (hubs_without n w.nodes)) (members_without at m n m.hubs k a (hubs_of w.nodes) st.seen.hubs);
  };
  owned = st.owned;
}

pub returns-then-n-eq0-clause-kept : goal.returns-then-n-eq0-clause-kept
returns-then-n-eq0-clause-kept g c =
    let k = c.requires.kept in
    let at = g.St.Store.node_at c.args.g.now.store in
    let q = g.Q.Queue.events c.args.g.now.queue in
    let is = c.disarm.ensures.disarmed in
    kept_queue at _ q _ _ _ _ c.args.g.now.marks k c.disarm.ensures.size
    (subst (λ (e : Events). AllByRecursion (IsArmable at) e.list) (sym is) (left_all (IsArmable at) (IsArmable at) 0 (λ x e h. h) q k.sound.events.queue.apart k.sound.events.armed))
    (subst IsQueue (sym is) (disarmed_keeps 0 q k.sound.events.queue))

pub returns-then-n-eq0-clause-stands : goal.returns-then-n-eq0-clause-stands
returns-then-n-eq0-clause-stands g c w st =
    let k = c.requires.kept in
    let at = g.St.Store.node_at c.args.g.now.store in
    let m = c.args.g.now.marks in
    let q = g.Q.Queue.events c.args.g.now.queue in
    stands at q _ _ m c.args.n w k.sound.numbered c.requires.absent
    (ap (λ (j : ℕ). disarmed j (events_as (event_name at m.next) q)) c.if-n-eq0.true ∙ sym (disarmed_by (event_name at m.next) (apart_events at m k.sound.numbered) 0 q) ∙ ap (events_as (event_name at m.next)) (sym c.disarm.ensures.disarmed)) st

pub returns-else-n-eq0-clause-stands : goal.returns-else-n-eq0-clause-stands
returns-else-n-eq0-clause-stands g c w st =
    let k = c.requires.kept in
    let at = g.St.Store.node_at c.args.g.now.store in
    let m = c.args.g.now.marks in
    let q = g.Q.Queue.events c.args.g.now.queue in
    stands at q q _ m c.args.n w k.sound.numbered c.requires.absent (absent_unarmed at m.next c.args.n q c.requires.absent c.if-n-eq0.false k.sound.events.armed) st

pub returns-then-n-eq0-clause-goes : goal.returns-then-n-eq0-clause-goes
returns-then-n-eq0-clause-goes g c = goes_absent (g.St.Store.node_at c.args.g.now.store) c.args.n c.requires.absent

pub returns-else-n-eq0-clause-goes : goal.returns-else-n-eq0-clause-goes
returns-else-n-eq0-clause-goes g c = goes_absent (g.St.Store.node_at c.args.g.now.store) c.args.n c.requires.absent
