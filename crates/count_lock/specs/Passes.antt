-- What a clause says of a pass and of a lock.
use Rattle.std.specs.Prelude.{◌≡◌, ℕ, ◌<◌, ◌≤◌, List, [], ◌∷◌, None}
use Rattle.atomic_table.specs.declared.shared.Seat.{Seat}
use Rattle.count_lock.specs.declared.kept.Kept.{Ghosts}
use Rattle.count_lock.specs.declared.pass.Pass.{Pass}
use Rattle.count_lock.specs.declared.lock.CountLock.{CountLock}
use Rattle.count_lock.specs.declared.view.Stage.TheVariants.{Idle, Turn, Noted}
use Rattle.count_lock.specs.declared.view.Kin.{Kin}
use Rattle.count_lock.specs.Rule.{of, Authored, Made, family}

abbrev pub IsSameSeat : {S V : Type 0} → Seat S V → Seat S V → Type 0
IsSameSeat a b = (b.table_id ≡ a.table_id) × (b.id ≡ a.id)

-- the constant of the value that the lock was made with
abbrev pub constant_of : {T E : Type 0} → CountLock T E → ℕ
constant_of l = l.table.shared.key.constant

-- how many words of its caller's a lock has
abbrev pub words_of : {T E : Type 0} → CountLock T E → ℕ
words_of l = l.table.shared.key.words

module _ {T E : Type 0} {g : Ghosts T E} where
  abbrev pub seen : Pass T E g → List E
  seen p = p.seat.me.0.seen

  abbrev pub mine : Pass T E g → List E
  mine p = p.seat.me.0.mine

  -- a beginning of the history in which the ends stand that the pass loaded
  abbrev pub known : Pass T E g → List E
  known p = p.seat.me.0.known

  -- where its entry stands that it noted, and the words that it marked as ended there
  abbrev pub place : Pass T E g → ℕ
  place p = p.seat.me.0.place

  abbrev pub marked : Pass T E g → List ℕ
  marked p = p.seat.me.0.marked

  -- the passes that were joined into it
  abbrev pub kin : Pass T E g → List (Kin E)
  kin p = p.seat.me.0.kin

  -- the pass and its kin
  abbrev pub family_of : Pass T E g → List (Kin E)
  family_of p = record { number = p.number; mine = mine p } ∷ kin p

  abbrev pub constant : Pass T E g → ℕ
  constant p = p.seat.me.0.constant

  abbrev pub number : Pass T E g → ℕ
  number p = p.number

  -- its spare numbers are those from `first_spare` to below `end_spare`
  abbrev pub first_spare : Pass T E g → ℕ
  first_spare p = p.from

  abbrev pub end_spare : Pass T E g → ℕ
  end_spare p = p.until

  pub record IsPassOf (l : CountLock T E) (p : Pass T E g) : Type 0 where
    pub table : p.seat.table_id ≡ l.table.shared.table_id
    pub constant : p.seat.me.0.constant ≡ l.table.shared.key.constant

  -- it is a pass of the same lock, with the same number and spare numbers
  pub record IsSamePass (a b : Pass T E g) : Type 0 where
    pub table : b.seat.table_id ≡ a.seat.table_id
    pub constant : b.seat.me.0.constant ≡ a.seat.me.0.constant
    pub number : b.number ≡ a.number
    pub from : b.from ≡ a.from
    pub until : b.until ≡ a.until

  -- the first pass of its lock, which was never split: every other number is its spare number
  abbrev pub IsUnsplit : Pass T E g → Type 0
  IsUnsplit p = (p.number ≡ 0) × (p.from ≡ 1) × (p.until ≡ 4294967296)

  pub record IsResting (p : Pass T E g) : Type 0 where
    pub stage : p.seat.me.0.stage ≡ Idle
    pub empty : p.seat.me.1 ≡ []

  pub record HasTurn (p : Pass T E g) : Type 0 where
    pub stage : p.seat.me.0.stage ≡ Turn
    pub out : p.seat.me.1 ≡ (0, None) ∷ []

  -- it has the turn, and its entry is in the history
  pub record HasNoted (p : Pass T E g) : Type 0 where
    pub stage : p.seat.me.0.stage ≡ Noted
    pub out : p.seat.me.1 ≡ (0, None) ∷ []

  -- of the list, `mine` is what has the pass's number, what each of its kin made has that one's, no entry has a spare number, and all
  -- numbers are below 2 ^ 32
  pub record Accounts (by : E → ℕ) (p : Pass T E g) (es : List E) : Type 0 where
    pub mine : of by p.number es ≡ p.seat.me.0.mine
    pub kin : Made by es p.seat.me.0.kin
    pub spare : (n : ℕ) → p.from ≤ n → n < p.until → of by n es ≡ []
    pub authors : Authored by es
