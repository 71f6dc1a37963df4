-- What a contract sees of a `NodeArena`.
use Rattle.std.specs.Prelude.{◌≡◌, ℕ, ◌+◌, ◌-◌, ◌/◌, ◌%◌, ◌^◌, ◌<◌, ◌≤◌, List, [], ◌∷◌, ◌++◌, Option, None, Some, Bool, true, false, length, slice_get, nat_lt, nat_le, nat_eq, ◌==◌, ◌&&◌, if◌then◌else◌, vec_capacity}
use Rattle.std.specs.List.{list_any, AllByRecursion, IsDistinct}
use Rattle.kj_base.specs.declared.nodes.Node.{Node}
use Rattle.kj_base.specs.Places.{Spot, Row, arenas, counts, one_if}
use Rattle.node_table.specs.NodeTable.{is_at, AreApart}
use Rattle.node_arena.specs.declared.Cell.{Cell}
use Rattle.node_arena.specs.declared.State.{State}
use Rattle.node_arena.specs.declared.State.TheVariants.{Free, Bare, Covered}
use Rattle.node_arena.specs.declared.NodeArena.TheInside.{Inside}
use Rattle.node_arena.specs.Needs.{beyond_at, needed}

-- the cells by slot, eight for each arena, the free arenas, and how many slots are live
pub record Arenas : Type 0 where
  pub cells : List Cell
  pub free : List ℕ
  pub live : ℕ

-- what is seen
abbrev pub view_of : Inside → Arenas
view_of t = record { cells = t.cells.items; free = t.free.items; live = t.live }

-- whether a cell in this state has a node
abbrev pub has_node : State → Bool
has_node Free = false
has_node Bare = true
has_node Covered = true

-- whether it has one before which none was placed
abbrev pub is_bare_state : State → Bool
is_bare_state Free = false
is_bare_state Bare = true
is_bare_state Covered = false

-- the same of a cell that may not be there
abbrev pub live_in : Option Cell → Bool
live_in None = false
live_in (Some cell) = has_node cell.state

abbrev pub bare_in : Option Cell → Bool
bare_in None = false
bare_in (Some cell) = is_bare_state cell.state

abbrev pub node_if : Bool → Node → Option Node
node_if true node = Some node
node_if false node = None

abbrev pub node_in : Option Cell → Option Node
node_in None = None
node_in (Some cell) = node_if (has_node cell.state) cell.node

-- whether a slot is live
abbrev pub live_at : List Cell → ℕ → Bool
live_at cells slot = live_in (slice_get cells slot)

-- whether a slot is bare
abbrev pub bare_at : List Cell → ℕ → Bool
bare_at cells slot = bare_in (slice_get cells slot)

-- the node of a live slot
abbrev pub node_of : Arenas → ℕ → Option Node
node_of t slot = node_in (slice_get t.cells slot)

-- how many slots there are
abbrev pub slot_count : Arenas → ℕ
slot_count t = length t.cells

-- whether a slot is bare
abbrev pub is_bare : Arenas → ℕ → Bool
is_bare t slot = bare_at t.cells slot

-- the slot behind this one in its arena
abbrev pub behind : ℕ → Option ℕ
behind slot = if nat_lt (slot % 8) 7 then Some (slot + 1) else None

-- the slot before which the node of a live slot was placed, where that was in one arena
abbrev pub stands_before : Arenas → ℕ → Option ℕ
stands_before t slot = if live_at t.cells slot then behind slot else None

-- the place of a live slot in its arena
abbrev pub place_of_live : List Cell → ℕ → Option ℕ
place_of_live cells slot = if live_at cells slot then Some (slot % 8) else None

-- the place of the slot before which a row goes
abbrev pub place_before_slot : List Cell → Option ℕ → Option ℕ
place_before_slot cells None = None
place_before_slot cells (Some slot) = place_of_live cells slot

-- how many free arenas a row needs
abbrev pub slot_needs : List Cell → Row → ℕ
slot_needs cells r = beyond_at r.count (place_before_slot cells r.before)

-- the needs of the rows are at most the free arenas, and their nodes at most the slots that aren't live
abbrev pub has_room : Arenas → List Row → Bool
has_room t rows = nat_le (needed (slot_needs t.cells) rows) (length t.free) && nat_le (t.live + counts rows) (length t.cells)

-- how many of these cells have a node
abbrev pub live_count : List Cell → ℕ
live_count [] = 0
live_count (cell ∷ cells) = one_if (has_node cell.state) + live_count cells

-- an arena has no live slot
abbrev pub IsUnused : List Cell → ℕ → Type 0
IsUnused cells arena = (slot : ℕ) → slot / 8 ≡ arena → live_at cells slot ≡ false

-- whether a number is one of these
abbrev pub is_in : ℕ → List ℕ → Bool
is_in e xs = list_any (λ x. x == e) xs

-- the free arenas are those without a live slot, each once; below a bare slot none of its arena is live; the live slots are
-- counted
pub record IsKept (t : Inside) : Type 0 where
  pub whole : length t.cells.items % 8 ≡ 0
  pub size : length t.cells.items < 2 ^ 32
  pub room : length t.cells.items / 8 ≤ vec_capacity t.free
  pub below : AllByRecursion (λ a. a < length t.cells.items / 8) t.free.items
  pub apart : IsDistinct nat_eq t.free.items
  pub unused : (arena : ℕ) → is_in arena t.free.items ≡ true → IsUnused t.cells.items arena
  pub free : (arena : ℕ) → arena < length t.cells.items / 8 → IsUnused t.cells.items arena → is_in arena t.free.items ≡ true
  pub counted : t.live ≡ live_count t.cells.items
  pub lowest : (slot other : ℕ) → bare_at t.cells.items slot ≡ true → other / 8 ≡ slot / 8 → other < slot → live_at t.cells.items other ≡ false

-- a spot has the place of its number and the key of its arena, and the key tells the arena
pub record IsSpot (arena_of key_of : ℕ → ℕ) (x : Spot) : Type 0 where
  pub place : x.place ≡ x.number % 8
  pub arena : x.number / 8 ≡ arena_of x.key
  pub key : x.key ≡ key_of (x.number / 8)

-- the live slots are the numbers of these spots, each once, and each arena with a live slot has its key
pub record Stands (t : Arenas) (spots : List Spot) : Type 0 where
  pub arena_of : ℕ → ℕ
  pub key_of : ℕ → ℕ
  pub apart : AreApart spots
  pub each : (slot : ℕ) → is_at slot spots ≡ live_at t.cells slot
  pub spots_are : AllByRecursion (IsSpot arena_of key_of) spots
  pub all : length t.free + arenas spots ≡ length t.cells / 8
  pub count : length spots ≡ t.live

-- the slot below the one before which a node goes, where its arena has one
abbrev pub below_slot : Option ℕ → Option ℕ
below_slot None = None
below_slot (Some slot) = if nat_lt 0 (slot % 8) then Some (slot - 1) else None

-- the slot of a new node: that one, or else the last of an arena that is free no more
abbrev pub IsChosen : Option ℕ → List ℕ → List ℕ → ℕ → Type 0
IsChosen None old new slot = (old ≡ new ++ slot / 8 ∷ []) × (slot % 8 ≡ 7)
IsChosen (Some below) old new slot = (slot ≡ below) × (new ≡ old)

-- a cell in another state
abbrev pub in_state : State → Option Cell → Option Cell
in_state state None = None
in_state state (Some cell) = Some (record cell { state = state })

-- the cell of a slot after a node was placed before that slot
abbrev pub covered_by : Option ℕ → ℕ → Option Cell → Option Cell
covered_by None slot cell = cell
covered_by (Some before) slot cell = if before == slot then in_state Covered cell else cell

-- the cell before which a node was placed isn't bare any more
abbrev pub Covers : Option ℕ → List Cell → List Cell → Type 0
Covers before old new = (slot : ℕ) → slice_get new slot ≡ covered_by before slot (slice_get old slot)

-- a cell with another node
abbrev pub with_node : Node → Option Cell → Option Cell
with_node node None = None
with_node node (Some cell) = Some (record cell { node = node })
