-- How many free arenas the nodes of rows need.
use Rattle.std.specs.Prelude.{◌≡◌, ◌&&◌, ℕ, ◌+◌, ◌-◌, ◌/◌, ◌<◌, ◌≤◌, List, [], ◌∷◌, Option, None, Some, Bool, nat_lt, nat_le, if◌then◌else◌}
use Rattle.std.specs.List.{AllByRecursion}
use Rattle.kj_base.specs.Places.{Spot, Row, spot_of, arenas, table_fits}

-- how many arenas so many nodes need that go before one at this place: none where they fit below it
abbrev pub beyond : ℕ → ℕ → ℕ
beyond count place = if nat_lt place count then (count - place - 1) / 8 + 1 else 0

-- the same by the place of a node, or anew
abbrev pub beyond_at : ℕ → Option ℕ → ℕ
beyond_at count None = beyond count 0
beyond_at count (Some place) = beyond count place

-- what each row needs, in all
abbrev pub needed : (Row → ℕ) → List Row → ℕ
needed each [] = 0
needed each (r ∷ rows) = each r + needed each rows

-- the place of a spot
abbrev pub place_in : Option Spot → Option ℕ
place_in None = None
place_in (Some x) = Some x.place

-- the place of the node before which a row goes
abbrev pub place_before : List Spot → Option ℕ → Option ℕ
place_before spots None = None
place_before spots (Some n) = place_in (spot_of n spots)

-- what a row needs
abbrev pub row_needs : List Spot → Row → ℕ
row_needs spots r = beyond_at r.count (place_before spots r.before)

-- arenas of 8 slots: the needs and the arenas in use are at most the arenas that there are
abbrev pub needs_fit : ℕ → List Spot → List Row → Bool
needs_fit slots spots rows = nat_le (needed (row_needs spots) rows + arenas spots) (slots / 8)

-- what fits into arenas: the needs do, and there are slots for the live nodes and those of the rows
abbrev pub places_fit : ℕ → List Spot → List Row → Bool
places_fit slots spots rows = needs_fit slots spots rows && table_fits slots spots rows

-- rows of 1 to 8 nodes each
abbrev pub AreShort : List Row → Type 0
AreShort rows = AllByRecursion (λ (r : Row). (0 < r.count) × (r.count ≤ 8)) rows

-- two rules say the same of them
abbrev pub SameForShortRows : (List Spot → List Row → Bool) → (List Spot → List Row → Bool) → Type 0
SameForShortRows f g = (spots : List Spot) (rows : List Row) → AreShort rows → f spots rows ≡ g spots rows
