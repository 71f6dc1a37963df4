-- Lists of nodes in rings: the loop's own set, and the live hubs.
use Rattle.std.specs.Prelude.{◌≡◌, ◌<◌, ℕ, List, Bool, map, filter, slice_index_or}
use Rattle.std.specs.List.{AllByRecursion}
use Rattle.promise_graph.specs.declared.fields.Rings.{Rings}
use Rattle.promise_graph.specs.Slots.{slot_of}
use Rattle.promise_graph.specs.Rings.{next_at, prev_at, IsRing, AreApart}
use Rattle.promise_graph.specs.Kept.{is_there}

-- whether a live node has this number
abbrev pub is_given : List ℕ → ℕ → Bool
is_given numbers n = is_there (slot_of n numbers)

-- the live ones among these nodes are in a ring, the oldest behind its head, whose place is behind the last slot
pub record HasMembers (numbers : List ℕ) (r : Rings) (slots next : ℕ) (listed : List ℕ) : Type 0 where
  pub members : List ℕ
  pub ring : IsRing (next_at r) (prev_at r) slots members
  pub apart : AreApart slots members
  pub each : AllByRecursion (λ s. 0 < slice_index_or numbers s 0) members
  pub named : filter (is_given numbers) listed ≡ map (λ s. slice_index_or numbers s 0) members
  pub below : AllByRecursion (λ n. n < next) listed
