-- What each call of a graph keeps, whatever world it stands for.
use Rattle.std.specs.Prelude.{◌≡◌, ◌<◌, ◌≤◌, ℕ, zero, suc, ◌+◌, ◌*◌, List, [], length, Option, None, Some, Bool, true, false, ◌==◌, ◌&&◌, not, nat_lt, unwrap_or, slice_index_or, vec_capacity, IsSome}
use Rattle.std.specs.List.{AllByRecursion}
use Rattle.kj_base.specs.declared.limits.TheConstants.{MAX_SLOTS}
use Rattle.kj_base.specs.Queue.{Events, IsQueue}
use Rattle.kj_base.specs.declared.nodes.Node.{Node}
use Rattle.kj_base.specs.declared.nodes.Link.{Link}
use Rattle.kj_base.specs.declared.nodes.Form.{Form as FormCase}
use Rattle.kj_model.specs.Nodes.{Form, parts_of}
use Rattle.promise_nodes.specs.Shown.{shown}
use Rattle.promise_nodes.specs.Kept.{OnlyFalls, OnlyRises, RisesIn, is_hub, hub_of as hub_in}
use Rattle.promise_graph.specs.declared.index.Entry.{Entry}
use Rattle.promise_graph.specs.declared.fields.Marks.{Marks}
use Rattle.promise_graph.specs.Slots.{IsRising, slot_in, number_at, slot_of}
use Rattle.promise_graph.specs.Rings.{next_at, ArePaired}

-- ---- what the marks say

-- no node
abbrev pub nobody : Link
nobody = record { slot = record { 0 = 0 }; number = record { 0 = 0 } }

-- the node that took the node of a slot
abbrev pub link_at : Marks → ℕ → Link
link_at m s = slice_index_or m.owners.items s nobody

-- its number, or 0
abbrev pub taker_at : Marks → ℕ → ℕ
taker_at m s = (link_at m s).number.0

-- the parts of a form, whose order of freeing is that of the definitions
abbrev pub form_parts : FormCase → List ℕ
form_parts form = parts_of (shown [] form)

-- the hub of the branch in a slot
abbrev pub hub_of : Option Node → Option ℕ
hub_of None = None
hub_of (Some node) = hub_in (shown [] node.form)

-- whether there is one
abbrev pub is_there : Option ℕ → Bool
is_there None = false
is_there (Some n) = true

-- whether the node of this slot was made a tree
abbrev pub is_taken_at : Marks → Option ℕ → Bool
is_taken_at m None = false
is_taken_at m (Some s) = not (taker_at m s == 0)

-- whether a node is live and was made a tree
abbrev pub is_taken : Marks → ℕ → Bool
is_taken m n = is_taken_at m (slot_of n m.numbers.items)

-- whether this slot has a branch that stands in a ring
abbrev pub is_listed_at : (ℕ → Option Node) → Marks → Option ℕ → Bool
is_listed_at at m None = false
is_listed_at at m (Some s) = is_there (hub_of (at s)) && not (next_at m.rings s == s)

-- whether a node is a live branch that stands in a ring
abbrev pub is_listed : (ℕ → Option Node) → Marks → ℕ → Bool
is_listed at m n = is_listed_at at m (slot_of n m.numbers.items)

-- whether a form is neither a hub nor a branch
abbrev pub is_plain_form : Form → Bool
is_plain_form form = not (is_hub form) && not (is_there (hub_in form))

-- whether these are the same number or both none
abbrev pub is_same : Option ℕ → Option ℕ → Bool
is_same None None = true
is_same None (Some n) = false
is_same (Some m) None = false
is_same (Some m) (Some n) = m == n

-- whether these are the same
abbrev pub is_bool : Bool → Bool → Bool
is_bool true b = b
is_bool false b = not b

-- whether both are hubs, branches of one hub, or neither
abbrev pub is_same_kind : FormCase → FormCase → Bool
is_same_kind old new = is_bool (is_hub (shown [] old)) (is_hub (shown [] new)) && is_same (hub_in (shown [] old)) (hub_in (shown [] new))

-- whether a node is neither
abbrev pub is_plain_node : Option Node → Bool
is_plain_node None = true
is_plain_node (Some node) = is_plain_form (shown [] node.form)

-- whether this slot has no hub and no branch
abbrev pub is_plain_at : (ℕ → Option Node) → Option ℕ → Bool
is_plain_at at None = true
is_plain_at at (Some s) = is_plain_node (at s)

-- whether it is a live hub
abbrev pub is_hub_node : Option Node → Bool
is_hub_node None = false
is_hub_node (Some node) = is_hub (shown [] node.form)

-- whether a number was given to a node that is no hub and no branch, or that went
abbrev pub is_plain : (ℕ → Option Node) → Marks → ℕ → Bool
is_plain at m n = nat_lt n m.next && is_plain_at at (slot_of n m.numbers.items)

-- ---- what is kept

-- event 0 is the wait, and others are of live nodes
abbrev pub IsArmable : (ℕ → Option Node) → ℕ → Type 0
IsArmable at zero = Unit {0}
IsArmable at (suc s) = IsSome (number_at at s)

-- each live slot has its number, and the index finds it
pub record AreNumbered (at : ℕ → Option Node) (m : Marks) : Type 0 where
  pub few : m.slots ≤ MAX_SLOTS
  pub first : 0 < m.next
  pub low : (s : ℕ) → IsSome (number_at at s) → s < m.slots
  pub all : length m.numbers.items ≡ m.slots
  pub each : (s : ℕ) → s < m.slots → slice_index_or m.numbers.items s 0 ≡ unwrap_or (number_at at s) 0
  pub given : (s n : ℕ) → number_at at s ≡ Some n → (0 < n) × (n < m.next)
  pub indexed : (s n : ℕ) → number_at at s ≡ Some n → slot_in n m.index.items ≡ Some s
  pub rising : IsRising m.index.items
  pub below : AllByRecursion (λ (e : Entry). e.number < m.next) m.index.items
  pub above : AllByRecursion (λ (e : Entry). 0 < e.number) m.index.items
  pub room : 2 * m.slots < vec_capacity m.index

-- events are of live nodes, or of the wait
pub record AreArmed (at : ℕ → Option Node) (q : Events) (size slots : ℕ) : Type 0 where
  pub size_is : size ≡ slots + 1
  pub armed : AllByRecursion (IsArmable at) q.list
  pub queue : IsQueue q

-- a live slot that no node took is bare
pub record AreBare (at : ℕ → Option Node) (bare : ℕ → Bool) (m : Marks) : Type 0 where
  pub all_owners : length m.owners.items ≡ m.slots
  pub bare_is : (s : ℕ) → IsSome (number_at at s) → taker_at m s ≡ 0 → bare s ≡ true

-- slots, numbers, events and rings fit together
pub record IsSound (at : ℕ → Option Node) (q : Events) (store_slots size : ℕ) (m : Marks) : Type 0 where
  pub store_is : store_slots ≡ m.slots
  pub numbered : AreNumbered at m
  pub events : AreArmed at q size m.slots
  pub paired : ArePaired m.rings m.slots
  pub single : (s : ℕ) → s < m.slots → at s ≡ None → next_at m.rings s ≡ s
  pub tasks_paired : ArePaired m.tasks (m.slots + 1)
  pub hubs_paired : ArePaired m.hubs (m.slots + 1)

-- what each call keeps
pub record IsKept (at : ℕ → Option Node) (bare : ℕ → Bool) (q : Events) (store_slots size : ℕ) (m : Marks) : Type 0 where
  pub sound : IsSound at q store_slots size m
  pub owned : AreBare at bare m

-- no node becomes a tree or a listed branch, and no number is given
pub record Falls (old new : ℕ → Option Node) (m m' : Marks) : Type 0 where
  pub taken : OnlyFalls (is_taken m) (is_taken m')
  pub listed : OnlyFalls (is_listed old m) (is_listed new m')
  pub plain : OnlyRises (is_plain old m) (is_plain new m')
  pub next_is : m'.next ≡ m.next
  pub slots_are : m'.slots ≡ m.slots

-- only these become listed branches
pub record Rises (parts : List ℕ) (old new : ℕ → Option Node) (m m' : Marks) : Type 0 where
  pub taken : OnlyFalls (is_taken m) (is_taken m')
  pub listed : RisesIn parts (is_listed old m) (is_listed new m')
  pub plain : OnlyRises (is_plain old m) (is_plain new m')
  pub next_is : m'.next ≡ m.next
  pub slots_are : m'.slots ≡ m.slots
