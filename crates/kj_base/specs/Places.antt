-- Where nodes are placed, and when more of them fit.
use Rattle.std.specs.Prelude.{ℕ, ◌+◌, ◌-◌, ◌/◌, List, [], ◌∷◌, Option, None, Some, Bool, true, false, not, ◌==◌, nat_lt, nat_le, length, map, sum, find, filter, ◌≡◌}
use Rattle.std.specs.List.{list_any}

-- the arena of a live node, and its place there
pub record Spot : Type 0 where
  pub number : ℕ
  pub key : ℕ
  pub place : ℕ

-- so many nodes, placed one before the other, the first of them before this node or anew
pub record Row : Type 0 where
  pub before : Option ℕ
  pub count : ℕ

-- so many nodes before this one, or anew
abbrev pub row : Option ℕ → ℕ → Row
row before count = record { before = before; count = count }

-- how many nodes the rows have
abbrev pub counts : List Row → ℕ
counts rows = sum (map (λ (r : Row). r.count) rows)

-- the plain table: live nodes plus the counts are at most the slots
abbrev pub table_fits : ℕ → List Spot → List Row → Bool
table_fits slots spots rows = nat_le (length spots + counts rows) slots

-- where a live node is
abbrev pub spot_of : ℕ → List Spot → Option Spot
spot_of n spots = find (λ (x : Spot). x.number == n) spots

-- 1 where it holds
abbrev pub one_if : Bool → ℕ
one_if true = 1
one_if false = 0

-- a row needs a free arena where it is anew, or where its count is above the place of the node
-- before which it goes
abbrev pub needs_over : ℕ → Option Spot → ℕ
needs_over count None = 1
needs_over count (Some x) = one_if (nat_lt x.place count)

-- how many free arenas a row needs, by the node before which it goes
abbrev pub needs_at : List Spot → ℕ → Option ℕ → ℕ
needs_at spots count None = 1
needs_at spots count (Some n) = needs_over count (spot_of n spots)

-- how many free arenas a row needs
abbrev pub needs : List Spot → Row → ℕ
needs spots row = needs_at spots row.count row.before

-- how many arenas have a live node
abbrev pub arenas : List Spot → ℕ
arenas [] = 0
arenas (x ∷ xs) = one_if_new (list_any (λ (y : Spot). y.key == x.key) xs) + arenas xs
  where
    one_if_new : Bool → ℕ
    one_if_new true = 0
    one_if_new false = 1

-- arenas of 8 slots: the needs and the arenas in use are at most the arenas that there are
abbrev pub arenas_fit : ℕ → List Spot → List Row → Bool
arenas_fit slots spots rows = nat_le (sum (map (needs spots) rows) + arenas spots) (slots / 8)

-- the last place of a free arena, whose key is new
abbrev pub spot_anew : ℕ → ℕ → Spot
spot_anew number key = record { number = number; key = key; place = 7 }

-- the place before this one in the same arena
abbrev pub spot_before : ℕ → Spot → Spot
spot_before number x = record { number = number; key = x.key; place = x.place - 1 }

-- the place before this one, where there is one
abbrev pub spot_if : Bool → ℕ → ℕ → Spot → Spot
spot_if true number key x = spot_before number x
spot_if false number key x = spot_anew number key

-- the spot of a node that goes before one at this spot
abbrev pub spot_over : ℕ → ℕ → Option Spot → Spot
spot_over number key None = spot_anew number key
spot_over number key (Some x) = spot_if (nat_lt 0 x.place) number key x

-- the spot of a new node that goes before this one, or anew; the key is that of the next arena
abbrev pub spot_placed : ℕ → ℕ → Option ℕ → List Spot → Spot
spot_placed number key None spots = spot_anew number key
spot_placed number key (Some n) spots = spot_over number key (spot_of n spots)

-- the spots of the other nodes
abbrev pub spots_without : ℕ → List Spot → List Spot
spots_without n spots = filter (λ (x : Spot). not (x.number == n)) spots

-- different numbers get different numbers
abbrev pub IsOneToOne : (ℕ → ℕ) → Type 0
IsOneToOne rename = (a b : ℕ) → rename a ≡ rename b → a ≡ b

-- a spot under another number
abbrev pub spot_as : (ℕ → ℕ) → Spot → Spot
spot_as rename x = record x { number = rename x.number }

-- the node before which a row goes, under another number
abbrev pub before_as : (ℕ → ℕ) → Option ℕ → Option ℕ
before_as rename None = None
before_as rename (Some n) = Some (rename n)

-- a row under other numbers
abbrev pub row_as : (ℕ → ℕ) → Row → Row
row_as rename r = row (before_as rename r.before) r.count
