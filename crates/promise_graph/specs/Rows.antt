-- Rows of nodes, and what is added with a node.
use Rattle.std.specs.Prelude.{◌≡◌, ◌≢◌, ℕ, ◌+◌, List, Option, None, Some, Bool, true, map, length, is_some, ◌==◌, if◌then◌else◌}
use Rattle.kj_base.specs.Places.{Spot, Row, row, spot_of}
use Rattle.kj_base.specs.Store.{KeepsOthers}
use Rattle.kj_base.specs.declared.nodes.Node.{Node}
use Rattle.kj_base.specs.declared.nodes.Form.{Form as FormCase}
use Rattle.kj_model.specs.Nodes.{renamed_form}
use Rattle.promise_nodes.specs.Shown.{shown}
use Rattle.promise_graph.specs.declared.fields.Marks.{Marks}
use Rattle.promise_graph.specs.Slots.{number_at, Finds, slot_of}
use Rattle.promise_graph.specs.Kept.{taker_at}

-- the slot before which a node is built; none anew, or where that node isn't live
abbrev pub FindsBefore : (ℕ → Option Node) → Option ℕ → Option ℕ → Type 0
FindsBefore at None slot = slot ≡ None
FindsBefore at (Some n) slot = Finds at n slot

-- the number of the node in the slot before which one is placed
abbrev pub name_before : (ℕ → Option Node) → Option ℕ → Option ℕ
name_before at None = None
name_before at (Some s) = number_at at s

-- the slot before which a row goes, by the numbers of the slots
abbrev pub slot_before : Marks → Option ℕ → Option ℕ
slot_before m None = None
slot_before m (Some n) = slot_of n m.numbers.items

-- a row by slots in place of numbers; before a node that isn't live it goes anew
abbrev pub row_at : Marks → Row → Row
row_at m r = row (slot_before m r.before) r.count

-- whether rows fit, by the store's own test
abbrev pub room_of : (List Row → Bool) → Marks → List Row → Bool
room_of room m rows = room (map (row_at m) rows)

-- the node before which a row goes, where it has a spot
abbrev pub known_before : List Spot → Option ℕ → Option ℕ
known_before spots None = None
known_before spots (Some n) = if is_some (spot_of n spots) then Some n else None

-- a row before a node without a spot goes anew
abbrev pub known_row : List Spot → Row → Row
known_row spots r = row (known_before spots r.before) r.count

-- whether rows fit, by the store's rule
abbrev pub rule_of : (ℕ → List Spot → List Row → Bool) → ℕ → List Spot → List Row → Bool
rule_of rule slots spots rows = rule slots spots (map (known_row spots) rows)

-- a node was placed that nobody took
pub record IsAdded (at new : ℕ → Option Node) (bare bare' : ℕ → Bool) (m m' : Marks) (before : Option ℕ) (slot : ℕ) (form : FormCase) : Type 0 where
  pub was_free : at slot ≡ None
  pub placed : new slot ≡ Some (record { number = record { 0 = m.next }; form = form })
  pub others : KeepsOthers at new slot
  pub bare_here : bare' slot ≡ true
  pub bares : (s : ℕ) → s ≢ slot → before ≢ Some s → bare' s ≡ bare s
  pub untaken : taker_at m' slot ≡ 0
  pub takers : (s : ℕ) → s ≢ slot → taker_at m' s ≡ taker_at m s
  pub all_owners : length m'.owners.items ≡ m'.slots
  pub rings_are : m'.rings ≡ m.rings
  pub next_is : m'.next ≡ m.next + 1
  pub slots_are : m'.slots ≡ m.slots

-- a form that is that of a node, with the tree new in place of old
abbrev pub IsReplaced : Option Node → ℕ → ℕ → FormCase → Type 0
IsReplaced o old new form = (node : Node) (branches : List ℕ) → o ≡ Some node → shown branches form ≡ renamed_form old new (shown branches node.form)

-- a node of this number came into a slot that was free, and the other slots have the numbers that they had
pub record Comes (at new : ℕ → Option Node) (next : ℕ) : Type 0 where
  pub slot : ℕ
  pub free : number_at at slot ≡ None
  pub here : number_at new slot ≡ Some next
  pub others : (s : ℕ) → s ≢ slot → number_at new s ≡ number_at at s

-- the number of a slot, where one number went
abbrev pub gone_number : ℕ → Option ℕ → Option ℕ
gone_number n None = None
gone_number n (Some m) = if m == n then None else Some m

-- the node of this number went, if there was one, and the other slots have the numbers that they had
abbrev pub Goes : ℕ → (ℕ → Option Node) → (ℕ → Option Node) → Type 0
Goes n at new = (s : ℕ) → number_at new s ≡ gone_number n (number_at at s)
