-- The requests that were asked to end, and which of them are still to be told so.
use Rattle.std.specs.Prelude.{◌≡◌, ℕ, ◌+◌, ◌<◌, ◌≤◌, Bool, true, false, List, [], ◌∷◌, map, length, cond}
use Rattle.std.specs.List.{All, Contains}
use Rattle.std.specs.Ordering.{nat_cmp}
use Rattle.std.specs.BinaryHeap.{IsHeap, heap_items, heap_len, heap_capacity}
use Rattle.executor_core.specs.declared.asked.Asked.{Asked}
use Rattle.executor_core.specs.declared.chain.Chain.{Chain}
use Rattle.executor_core.specs.declared.request.Request.{Request}
use Rattle.executor_core.specs.declared.request.State.{State}
use Rattle.executor_core.specs.declared.request.State.TheVariants.{Queued, Executing}
use Rattle.executor_core.specs.Acts.{queued_state, canceling_state}
use Rattle.executor_core.specs.Chains.{IsChain, marks}

abbrev pub numbers : Asked → List ℕ
numbers a = map (λ x. x.0) (heap_items a.heap)

-- the least number comes first
abbrev pub Ordered : Asked → Type 0
Ordered a = IsHeap (λ x y. nat_cmp y.0 x.0) (heap_items a.heap)

abbrev pub IsLeastOf : ℕ → List ℕ → Type 0
IsLeastOf r ns = Contains ns r × All (λ k. r ≤ k) ns

-- its end was not asked, and may be yet
abbrev pub askable_state : State → Bool
askable_state Queued = true
askable_state Executing = true
askable_state _ = false

-- what the requests weigh, by their states
abbrev pub total : (State → ℕ) → List Request → ℕ
total w [] = 0
total w (q ∷ rs) = w q.state + total w rs

abbrev pub askable_weight : State → ℕ
askable_weight st = cond (askable_state st) 1 0

-- how many of the requests may yet be asked to end
abbrev pub askable : List Request → ℕ
askable rs = total askable_weight rs

-- each request that is to be told that it is to end was entered, and there is room for each whose end may be asked
pub record Asks (limit : ℕ) (rs : List Request) (asked : Asked) : Type 0 where
  pub ordered : Ordered asked
  pub within : All (λ k. k < length rs) (numbers asked)
  pub told : (k : ℕ) → marks canceling_state rs k ≡ 1 → Contains (numbers asked) k
  pub fits : heap_len asked.heap + askable rs ≤ length rs
  pub room : limit ≤ heap_capacity asked.heap

-- the requests that wait for their start are linked, and those that are to be told that they are to end were entered
pub record Linked (limit : ℕ) (rs : List Request) (waiting : Chain) (asked : Asked) : Type 0 where
  pub waits : IsChain (marks queued_state rs) limit waiting
  pub waiting_in : waiting.bound ≤ length rs
  pub asks : Asks limit rs asked
