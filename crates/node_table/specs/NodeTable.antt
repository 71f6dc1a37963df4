-- What a contract sees of a `NodeTable`.
use Rattle.std.specs.Prelude.{◌≡◌, ℕ, ◌+◌, ◌<◌, ◌≤◌, List, Option, None, Some, Bool, true, false, IsSome, is_some, count_by, length, slice_index_or, nat_lt, nat_le, ◌==◌, [], ◌∷◌}
use Rattle.std.specs.List.{list_any}
use Rattle.slab.specs.Slab.{get, slab_len}
use Rattle.kj_base.specs.declared.nodes.Node.{Node}
use Rattle.kj_base.specs.Places.{Spot, Row, counts}
use Rattle.node_table.specs.declared.Cell.{Cell}
use Rattle.node_table.specs.declared.NodeTable.TheInside.{Inside}

-- the cells by slot, and how many slots there are
pub record Table : Type 0 where
  pub cells : List (Option Cell)
  pub slots : ℕ

-- what is seen
abbrev pub view_of : Inside → Table
view_of t = record { cells = t.cells.slots; slots = t.slots }

-- there is room for each slot, at most so many are live, and each live one is below their number
pub record IsKept (t : Inside) : Type 0 where
  pub capacity : t.cells.capacity ≡ t.slots
  pub live : slab_len t.cells ≤ t.slots
  pub below : (slot : ℕ) → IsSome (get t.cells slot) → slot < t.slots

-- a cell of a slot that there is
abbrev pub cell_if : Bool → Option Cell → Option Cell
cell_if true cell = cell
cell_if false cell = None

-- the cell of a live slot
abbrev pub cell_at : Table → ℕ → Option Cell
cell_at t slot = cell_if (nat_lt slot t.slots) (slice_index_or t.cells slot None)

-- the node of a cell
abbrev pub node_in : Option Cell → Option Node
node_in None = None
node_in (Some cell) = Some cell.node

-- whether the cell is live, and nothing was placed before it
abbrev pub bare_in : Option Cell → Bool
bare_in None = false
bare_in (Some cell) = cell.is_bare

-- the node of a live slot
abbrev pub node_of : Table → ℕ → Option Node
node_of t slot = node_in (cell_at t slot)

-- whether a slot is bare
abbrev pub bare_at : Table → ℕ → Bool
bare_at t slot = bare_in (cell_at t slot)

-- how many slots are live
abbrev pub live_count : Table → ℕ
live_count t = count_by is_some t.cells

-- live nodes plus the counts are at most the slots
abbrev pub has_room : Table → List Row → Bool
has_room t rows = nat_le (live_count t + counts rows) t.slots

-- whether a spot has this number
abbrev pub is_at : ℕ → List Spot → Bool
is_at slot spots = list_any (λ (x : Spot). x.number == slot) spots

-- no number stands twice
abbrev pub AreApart : List Spot → Type 0
AreApart [] = Unit {0}
AreApart (x ∷ xs) = (is_at x.number xs ≡ false) × AreApart xs

-- the live slots are the numbers of these spots, each once; keys and places mean nothing here
pub record Stands (t : Table) (spots : List Spot) : Type 0 where
  pub all : length spots ≡ live_count t
  pub apart : AreApart spots
  pub each : (slot : ℕ) → is_at slot spots ≡ is_some (cell_at t slot)
  pub few : live_count t ≤ t.slots

-- a cell before whose node one was placed
abbrev pub covered : Option Cell → Option Cell
covered None = None
covered (Some cell) = Some (record cell { is_bare = false })

-- the same, where it is the one
abbrev pub covered_if : Bool → Option Cell → Option Cell
covered_if true cell = covered cell
covered_if false cell = cell

-- the cell of a slot after a node was placed before that slot
abbrev pub covered_by : Option ℕ → ℕ → Option Cell → Option Cell
covered_by None slot cell = cell
covered_by (Some before) slot cell = covered_if (before == slot) cell

-- a cell with another node
abbrev pub with_node : Node → Option Cell → Option Cell
with_node node None = None
with_node node (Some cell) = Some (record cell { node = node })
