-- What is kept for each request, beside the board.
use Rattle.std.specs.Prelude.{◌≡◌, ◌⊎◌, ℕ, ◌+◌, ◌*◌, ◌≤◌, List, [], ◌∷◌, ◌++◌, length, slice_get, Option, Some}
use Rattle.kj_base.specs.declared.numbers.StepId.{StepId}
use Rattle.executor_core.specs.declared.request.State.{State}
use Rattle.executor_core.specs.declared.request.State.TheVariants.{Queued, Done as DoneState}
use Rattle.executor_core.specs.declared.request.Request.{Request}
use Rattle.executor_core.specs.declared.entry.Entry.{Entry}
use Rattle.executor_core.specs.Acts.{Desk}
use Rattle.executor_core.specs.Histories.{Legal, board_of, starts_in}
use Rattle.xthread.specs.declared.executor.TheConstants.{MAX_REQUESTS}
use Rattle.xthread.specs.declared.answers.Back.{Back}
use Rattle.xthread.specs.declared.answers.Back.TheVariants.{Unstarted, Ran}
use Rattle.xthread.specs.declared.place.Place.{Place}
use Rattle.xthread.specs.declared.place.Place.TheVariants.{Waiting, Away, Finished}

-- the value behind the lock, as contracts see it: the limit of its board, and its history
pub record Book : Type 0 where
  pub limit : ℕ
  pub entries : List Entry

abbrev pub book : ℕ → List Entry → Book
book limit entries = record { limit = limit; entries = entries }

-- the history is one entry longer
abbrev pub Grown : Book → Book → Entry → Type 0
Grown a b e = b ≡ book a.limit (a.entries ++ e ∷ [])

-- the history is legal, and as short as the room that was made for it
abbrev pub Sound : Book → Type 0
Sound b = Legal b.limit b.entries × (length b.entries ≤ 6 * MAX_REQUESTS + 1)

module _ {P R : Type 0} (fits : P → ℕ → List ℕ → Type 0) where
  abbrev pub HasPayload : StepId → List ℕ → Place P R → Type 0
  HasPayload step words place = (p : P) × (place ≡ Waiting p) × fits p step.0 words

  abbrev pub HasResult : Place P R → Type 0
  HasResult place = (r : R) × (place ≡ Finished r)

  -- a queued request has its payload, one that has ended and isn't spent has its payload or a result, and any other has neither
  abbrev pub Keeps : State → StepId → List ℕ → Place P R → Type 0
  Keeps Queued step words place = HasPayload step words place
  Keeps (DoneState o) step words place = HasPayload step words place ⊎ HasResult place
  Keeps _ step words place = place ≡ Away

  abbrev pub Stock : List Request → List (Place P R) → Type 0
  Stock rs places = (length places ≡ length rs)
      × ((r : ℕ) (q : Request) (place : Place P R) → slice_get rs r ≡ Some q → slice_get places r ≡ Some place → Keeps q.state q.step q.words place)

module _ {P R : Type 0} where
  -- what is given back is what was there
  abbrev pub IsBack : Option (Place P R) → Back P R → Type 0
  IsBack place (Unstarted p) = place ≡ Some (Waiting p)
  IsBack place (Ran r) = place ≡ Some (Finished r)

  -- what is kept for a request that starts so often: its payload before the start, and a result only after it
  abbrev pub Since : ℕ → Place P R → Type 0
  Since n (Waiting p) = n ≡ 0
  Since n Away = Unit {0}
  Since n (Finished r) = n ≡ 1

  abbrev pub Came : List Entry → List (Place P R) → Type 0
  Came es places = (r : ℕ) (place : Place P R) → slice_get places r ≡ Some place → Since (starts_in es r) place

-- what the value behind the lock keeps: a legal history, its board, what belongs to each request, and the room for all that may follow
pub record Whole {P R : Type 0} (fits : P → ℕ → List ℕ → Type 0) (board : Desk) (log : List Entry) (log_room : ℕ) (places : List (Place P R)) (room : ℕ) : Type 0 where
  pub legal : Legal board.limit log
  pub board_is : board ≡ board_of board.limit log
  pub stock : Stock fits board.requests places
  pub came : Came log places
  pub log_fits : 6 * board.limit + 1 ≤ log_room
  pub fits_in : board.limit ≤ room
  pub small : board.limit ≤ MAX_REQUESTS
