-- The worlds that a graph stands for.
use Rattle.std.specs.Prelude.{◌≡◌, ◌≢◌, ◌<◌, ◌≤◌, ℕ, zero, suc, ◌+◌, List, [], Option, None, Some, true, map, length, unwrap_or, IsSome}
use Rattle.std.specs.List.{AllByRecursion}
use Rattle.std.proofs.Common.{subst, sym}
use Rattle.kj_base.specs.Queue.{Events}
use Rattle.kj_base.specs.Places.{Spot, spot_as}
use Rattle.kj_base.specs.Store.{AreBelow as KeysBelow}
use Rattle.kj_base.specs.declared.nodes.Node.{Node}
use Rattle.kj_model.specs.Nodes.{Entry as Seen, form_at, is_in}
use Rattle.kj_model.specs.World.{World}
use Rattle.kj_model.specs.Fire.{branches_of}
use Rattle.kj_model.specs.Calls.{hubs_of}
use Rattle.promise_nodes.specs.Shown.{shown, link_number}
use Rattle.promise_nodes.specs.Once.{AreOnce}
use Rattle.promise_nodes.specs.Members.{lists_in}
use Rattle.promise_nodes.specs.Kept.{SameNodes, IsPlain, awaited_root, is_hub}
use Rattle.promise_graph.specs.declared.fields.Marks.{Marks}
use Rattle.promise_graph.specs.declared.fields.Rings.{Rings}
use Rattle.promise_graph.specs.declared.memberships.Memberships.{Memberships}
use Rattle.promise_graph.specs.Memberships.{HasLists}
use Rattle.promise_graph.specs.Slots.{number_at, IsAbsent}
use Rattle.promise_graph.specs.Rings.{next_at, prev_at, IsRing, AreApart}
use Rattle.promise_graph.specs.Kept.{form_parts, hub_of, taker_at, is_plain, IsArmable}
use Rattle.promise_graph.specs.Members.{HasMembers}

-- ---- numbers in place of slots

-- a number for each slot: its node's, or one that no node has
abbrev pub name_or : ℕ → Option ℕ → ℕ
name_or free None = free
name_or free (Some n) = n

-- this is one to one
abbrev pub name_at : (ℕ → Option Node) → ℕ → ℕ → ℕ
name_at at next s = name_or (next + s) (number_at at s)

-- the node of an event
abbrev pub event_name : (ℕ → Option Node) → ℕ → ℕ → ℕ
event_name at next zero = 0
event_name at next (suc s) = name_at at next s

-- events under other numbers
abbrev pub events_as : (ℕ → ℕ) → Events → Events
events_as f q = record { list = map f q.list; depth = q.depth; breadth = q.breadth }

-- the event of a live node, or of the wait; none exactly where there is no such node
abbrev pub EventIs : (ℕ → Option Node) → ℕ → ℕ → Option ℕ → Type 0
EventIs at next n None = IsAbsent at n × (n ≢ 0)
EventIs at next n (Some event) = (event_name at next event ≡ n) × IsArmable at event

-- ---- the nodes

-- the ring of a hub has these branches
pub record HasRing (at : ℕ → Option Node) (r : Rings) (hub number : ℕ) (branches : List ℕ) : Type 0 where
  pub members : List ℕ
  pub ring : IsRing (next_at r) (prev_at r) hub members
  pub apart : AreApart hub members
  pub each : AllByRecursion (λ s. hub_of (at s) ≡ Some number) members
  pub named : branches ≡ map (λ s. unwrap_or (number_at at s) 0) members

-- the live slots are these nodes
pub record HasNodes (at : ℕ → Option Node) (r : Rings) (nodes : List Seen) : Type 0 where
  pub there : (s : ℕ) (node : Node) → at s ≡ Some node → form_at node.number.0 nodes ≡ Some (shown (branches_of (form_at node.number.0 nodes)) node.form)
  pub absent : (n : ℕ) → IsAbsent at n → form_at n nodes ≡ None
  pub once : AreOnce nodes
  pub rings : (s : ℕ) (node : Node) → at s ≡ Some node → is_hub (shown [] node.form) ≡ true → HasRing at r s node.number.0 (branches_of (form_at node.number.0 nodes))

-- where a live node owns another one, it took it; and no tree is a node that wasn't built
pub record AreOwned (at : ℕ → Option Node) (m : Marks) : Type 0 where
  pub owner_is : (s t n : ℕ) (node : Node) → at s ≡ Some node → number_at at t ≡ Some n → is_in n (form_parts node.form) ≡ true → taker_at m t ≡ node.number.0
  pub below : (s n : ℕ) (node : Node) → at s ≡ Some node → is_in n (form_parts node.form) ≡ true → n < m.next

-- ---- the world

-- the live slots stand for these spots
pub record HasSpots (at : ℕ → Option Node) (sp : List Spot → Type 0) (next : ℕ) (spots : List Spot) (next_key : ℕ) : Type 0 where
  pub by_slot : List Spot
  pub by_store : sp by_slot
  pub placed : spots ≡ map (spot_as (name_at at next)) by_slot
  pub live : AllByRecursion (λ (x : Spot). IsSome (number_at at x.number)) by_slot
  pub keys : KeysBelow next_key by_slot

-- all but who owns whom
pub record IsSeen (at : ℕ → Option Node) (q : Events) (sp : List Spot → Type 0) (m : Marks) (w : World) : Type 0 where
  pub nodes : HasNodes at m.rings w.nodes
  pub queue : w.queue ≡ events_as (event_name at m.next) q
  pub spots : HasSpots at sp m.next w.spots w.next_key
  pub next_is : w.next ≡ m.next
  pub slots_are : w.limits.slots ≡ m.slots
  pub firing_is : w.firing ≡ link_number m.firing
  pub awaited_is : awaited_root w.awaited ≡ link_number m.awaited
  pub tasks : HasMembers m.numbers.items m.tasks m.slots m.next w.detached
  pub hubs : HasMembers m.numbers.items m.hubs m.slots m.next (hubs_of w.nodes)

-- slots, queue and marks stand for this world, whatever its names are
pub record Stands (at : ℕ → Option Node) (q : Events) (sp : List Spot → Type 0) (m : Marks) (w : World) : Type 0 where
  pub seen : IsSeen at q sp m w
  pub owned : AreOwned at m

-- the same; and what follows where the marks are kept
pub record NodesStand (at : ℕ → Option Node) (q : Events) (sp : List Spot → Type 0) (m : Marks) (w : World) : Type 0 where
  pub stands : Stands at q sp m w
  pub plain : (n : ℕ) → is_plain at m n ≡ true → IsPlain (form_at n w.nodes)
  pub tasks : (n : ℕ) → is_in n w.detached ≡ true → n < m.next
  pub hubs : (n : ℕ) → is_in n (hubs_of w.nodes) ≡ true → n < m.next
  pub few : (hub : ℕ) → length (branches_of (form_at hub w.nodes)) ≤ m.slots

-- a graph with these members of lists stands for this world
pub record StandsFor (at : ℕ → Option Node) (q : Events) (sp : List Spot → Type 0) (m : Marks) (x : Memberships) (w : World) : Type 0 where
  pub nodes : NodesStand at q sp m w
  pub lists : HasLists m x (lists_in w)

-- names don't matter
pub stands_named : (at : ℕ → Option Node) (q : Events) (sp : List Spot → Type 0) (m : Marks) (w v : World) → SameNodes w v → Stands at q sp m w → Stands at q sp m v
stands_named at q sp m w v same st = subst (λ (u : World). Stands at q sp m u) (sym same) (record {
  seen = record {
    nodes = st.seen.nodes;
    queue = st.seen.queue;
    spots = st.seen.spots;
    next_is = st.seen.next_is;
    slots_are = st.seen.slots_are;
    firing_is = st.seen.firing_is;
    awaited_is = st.seen.awaited_is;
    tasks = st.seen.tasks;
    hubs = st.seen.hubs;
  };
  owned = st.owned;
})
