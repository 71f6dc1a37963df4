-- What is said of a store of nodes.
use Rattle.std.specs.Prelude.{◌≡◌, ◌≢◌, ℕ, ◌-◌, ◌<◌, Bool, true, false, List, ◌∷◌, Option, None, Some, map, nat_lt, if◌then◌else◌, ◌==◌, ◌⊎◌}
use Rattle.std.specs.List.{list_any, AllByRecursion}
use Rattle.kj_base.specs.declared.nodes.Node.{Node}
use Rattle.kj_base.specs.declared.nodes.Slot.{Slot}
use Rattle.kj_base.specs.declared.nodes.Row.{Row as RowCase}
use Rattle.kj_base.specs.Places.{Spot, Row, row}

-- the number of a slot, where there is one
abbrev pub slot_number : Option Slot → Option ℕ
slot_number None = None
slot_number (Some slot) = Some slot.0

-- the row that a Rust row is
abbrev pub row_of : RowCase → Row
row_of r = row (slot_number r.before) r.count

-- the rows that these are
abbrev pub rows_of : List RowCase → List Row
rows_of rows = map row_of rows

-- a slot before which nothing was placed, or none
abbrev pub IsBareOrNone : (ℕ → Bool) → Option ℕ → Type 0
IsBareOrNone bare None = Unit {0}
IsBareOrNone bare (Some slot) = bare slot ≡ true

-- the slot before which a node was placed isn't bare any more
abbrev pub IsCovered : (ℕ → Bool) → Option ℕ → Type 0
IsCovered bare None = Unit {0}
IsCovered bare (Some slot) = bare slot ≡ false

-- a new slot stands before that one, or before none
abbrev pub StandsBefore : Option ℕ → Option ℕ → Type 0
StandsBefore before stands = (stands ≡ None) ⊎ (stands ≡ before)

-- another slot has the lower node, and the upper one stands before it, or before none
abbrev pub HasLower : Node → (ℕ → Option Node) → (ℕ → Option ℕ) → ℕ → Type 0
HasLower lower nodes stands upper = (slot : ℕ) × (slot ≢ upper) × (nodes slot ≡ Some lower) × StandsBefore (Some slot) (stands upper)

-- each live slot has the node that it had
abbrev pub KeepsLive : (ℕ → Option Node) → (ℕ → Option Node) → Type 0
KeepsLive old new = (slot : ℕ) (node : Node) → old slot ≡ Some node → new slot ≡ Some node

-- what is left of the rows when the first node of the first was placed in this slot
abbrev pub rows_after : ℕ → ℕ → List Row → List Row
rows_after slot count more = if nat_lt 1 count then row (Some slot) (count - 1) ∷ more else more

-- every other slot has what it had
abbrev pub KeepsOthers : {A : Type 0} → (ℕ → A) → (ℕ → A) → ℕ → Type 0
KeepsOthers old new slot = (other : ℕ) → other ≢ slot → new other ≡ old other

-- whether a row goes before this slot
abbrev pub is_before : ℕ → Row → Bool
is_before slot r = is_before_in slot r.before
  where
    is_before_in : ℕ → Option ℕ → Bool
    is_before_in slot None = false
    is_before_in slot (Some other) = other == slot

-- whether one of the rows goes before this slot
abbrev pub is_named : ℕ → List Row → Bool
is_named slot rows = list_any (is_before slot) rows

-- all nodes in these spots have keys below this one
abbrev pub AreBelow : ℕ → List Spot → Type 0
AreBelow key spots = AllByRecursion (λ (x : Spot). x.key < key) spots
