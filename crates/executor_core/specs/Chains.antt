-- Numbers in their order, linked in place.
use Rattle.std.specs.Prelude.{◌≡◌, ◌≢◌, ℕ, ◌+◌, ◌<◌, ◌≤◌, ◌⊎◌, List, length, slice_get, slice_set, Option, Some, None, Bool, cond}
use Rattle.executor_core.specs.declared.chain.Chain.{Chain}
use Rattle.executor_core.specs.declared.request.Request.{Request}
use Rattle.executor_core.specs.declared.request.State.{State}

-- a set of numbers: 1 where the number is in it, else 0
abbrev pub Marks : Type 0
Marks = ℕ → ℕ

-- the numbers from p to below k are not in the set, and the one before p is, if there is one
abbrev pub IsBefore : Marks → ℕ → ℕ → Type 0
IsBefore w k p = (p ≤ k) × ((j : ℕ) → p ≤ j → j < k → w j ≡ 0) × ((j : ℕ) → p ≡ j + 1 → w j ≡ 1)

-- the numbers after k to below n are not in the set, and n is, if it is below the bound
abbrev pub IsAfter : Marks → ℕ → ℕ → ℕ → Type 0
IsAfter w bound k n = (k < n) × (n ≤ bound) × ((j : ℕ) → k < j → j < n → w j ≡ 0) × (n < bound → w n ≡ 1)

-- the set, all below the bound, is linked from its least number to its greatest
pub record Chained (w : Marks) (first end bound : ℕ) (before after : List ℕ) : Type 0 where
  pub within : end ≤ bound
  pub begins : first ≤ bound
  pub past : (k : ℕ) → end ≤ k → w k ≡ 0
  pub ahead : (k : ℕ) → k < first → w k ≡ 0
  pub is_first : first < bound → w first ≡ 1
  pub is_last : (k : ℕ) → end ≡ k + 1 → w k ≡ 1
  pub prev : (k p : ℕ) → w k ≡ 1 → slice_get before k ≡ Some p → IsBefore w k p
  pub next : (k n : ℕ) → w k ≡ 1 → slice_get after k ≡ Some n → IsAfter w bound k n

-- the second set is the first without r, or with r
abbrev pub Without : Marks → Marks → ℕ → Type 0
Without w v r = ((k : ℕ) → k ≢ r → v k ≡ w k) × (v r ≡ 0)

abbrev pub With : Marks → Marks → ℕ → Type 0
With w v r = ((k : ℕ) → k ≢ r → v k ≡ w k) × (v r ≡ 1)

-- which link of the one before, and of the one after, is changed where p comes before n
abbrev pub LinksLeft : ℕ → ℕ → ℕ → ℕ → List ℕ → List ℕ → Type 0
LinksLeft p n first first' after after' = ((p ≡ 0) × (first' ≡ n) × (after' ≡ after)) ⊎ ((j : ℕ) × (p ≡ j + 1) × (first' ≡ first) × (after' ≡ slice_set after j n))

abbrev pub LinksRight : ℕ → ℕ → ℕ → ℕ → ℕ → List ℕ → List ℕ → Type 0
LinksRight p n bound end end' before before' = ((n ≡ bound) × (end' ≡ p) × (before' ≡ before)) ⊎ ((n < bound) × (end' ≡ end) × (before' ≡ slice_set before n p))

-- the chain has the set, of numbers below the limit
abbrev pub IsChain : Marks → ℕ → Chain → Type 0
IsChain w limit c = Chained w c.first c.end c.bound c.before.items c.after.items × (length c.before.items ≡ limit) × (length c.after.items ≡ limit) × (c.bound ≤ limit)

-- the requests in such a state
abbrev pub bit : (State → Bool) → Option Request → ℕ
bit p None = 0
bit p (Some q) = cond (p q.state) 1 0

abbrev pub marks : (State → Bool) → List Request → Marks
marks p rs k = bit p (slice_get rs k)
