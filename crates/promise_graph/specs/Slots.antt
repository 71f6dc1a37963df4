-- Numbers and the slots that have them.
use Rattle.std.specs.Prelude.{◌≡◌, ◌<◌, ℕ, zero, suc, List, [], ◌∷◌, Option, None, Some, Bool, true, false, ◌==◌, nat_lt, slice_index_or, if◌then◌else◌}
use Rattle.std.specs.List.{AllByRecursion}
use Rattle.std.specs.List.Sorted.{IsPartitionPoint}
use Rattle.kj_base.specs.declared.nodes.Node.{Node}
use Rattle.kj_base.specs.declared.nodes.Link.{Link}
use Rattle.promise_graph.specs.declared.index.Entry.{Entry}

-- the numbers rise
abbrev pub IsRising : List Entry → Type 0
IsRising [] = Unit {0}
IsRising (e ∷ es) = AllByRecursion (λ (later : Entry). e.number < later.number) es × IsRising es

-- so many entries have numbers below n, and those behind them haven't
abbrev pub AreBelow : ℕ → List Entry → ℕ → Type 0
AreBelow n es count = IsPartitionPoint (λ (e : Entry). nat_lt e.number n ≡ true) (λ (e : Entry). nat_lt e.number n ≡ false) es count

-- the slot that number n was given
abbrev pub slot_in : ℕ → List Entry → Option ℕ
slot_in n [] = None
slot_in n (e ∷ es) = if e.number == n then Some e.slot else slot_in n es

-- whether an entry isn't stale
abbrev pub is_current : List ℕ → Entry → Bool
is_current numbers e = slice_index_or numbers e.slot 0 == e.number

-- the number of a node
abbrev pub number_of : Option Node → Option ℕ
number_of None = None
number_of (Some node) = Some node.number.0

-- the number of the node in a slot
abbrev pub number_at : (ℕ → Option Node) → ℕ → Option ℕ
number_at at s = number_of (at s)

-- no slot has this number
abbrev pub IsAbsent : (ℕ → Option Node) → ℕ → Type 0
IsAbsent at n = (s : ℕ) → number_at at s ≡ Some n → ⊥

-- the slot of a live node; none exactly where there is none
abbrev pub Finds : (ℕ → Option Node) → ℕ → Option ℕ → Type 0
Finds at n None = IsAbsent at n
Finds at n (Some s) = number_at at s ≡ Some n

-- the node of a link is in its slot
abbrev pub HasLink : (ℕ → Option Node) → Option Link → Type 0
HasLink at None = Unit {0}
HasLink at (Some link) = number_at at link.slot.0 ≡ Some link.number.0

-- the next place, where there is one
abbrev pub one_up : Option ℕ → Option ℕ
one_up None = None
one_up (Some place) = Some (suc place)

-- the first place of a number
abbrev pub place_of : ℕ → List ℕ → Option ℕ
place_of n [] = None
place_of n (m ∷ ms) = if m == n then Some 0 else one_up (place_of n ms)

-- the slot of a node by the numbers of all slots; an empty slot has number 0
abbrev pub slot_of : ℕ → List ℕ → Option ℕ
slot_of zero numbers = None
slot_of (suc n) numbers = place_of (suc n) numbers
