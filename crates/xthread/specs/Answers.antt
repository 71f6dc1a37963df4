-- What the answers of an executor tell. `Gains` says that the history and the caller's own entries grew by an entry, `Stays`
-- that the call changed nothing and answered as the board at the whole history does, and `Holds` that the ticket is still the caller's.
use Rattle.std.specs.Prelude.{◌≡◌, ℕ, List, slice_get, Some}
use Rattle.kj_base.specs.declared.numbers.StepId.{StepId}
use Rattle.kj_base.specs.declared.outcomes.Outcome.{Outcome}
use Rattle.executor_core.specs.declared.request.Request.{Request}
use Rattle.executor_core.specs.declared.entry.Entry.{Entry}
use Rattle.executor_core.specs.declared.call.Call.{Call}
use Rattle.executor_core.specs.declared.call.Call.TheVariants as call
use Rattle.executor_core.specs.declared.call.Reply.{Reply}
use Rattle.executor_core.specs.declared.call.Reply.TheVariants as reply
use Rattle.executor_core.specs.Acts.{Desk, act}
use Rattle.executor_core.specs.Histories.{entry, board_of, times, is_start, starts_in, Unfinished}
use Rattle.xthread.specs.declared.ticket.Ticket.{Ticket}
use Rattle.xthread.specs.declared.answers.Next.{Next}
use Rattle.xthread.specs.declared.answers.Next.TheVariants.{Start, Stop, Empty}
use Rattle.xthread.specs.declared.answers.Cancelled.{Cancelled}
use Rattle.xthread.specs.declared.answers.Cancelled.TheVariants.{Withdrawn, Asked, TooLate}
use Rattle.xthread.specs.declared.answers.Back.{Back}
use Rattle.xthread.specs.declared.answers.Back.TheVariants.{Unstarted, Ran}
use Rattle.xthread.specs.declared.answers.Collected.{Collected}
use Rattle.xthread.specs.declared.answers.Collected.TheVariants.{NotYet, Ended}
use Rattle.xthread.specs.Stock.{Book}

abbrev pub request : Ticket → ℕ
request t = t.request

abbrev pub board : Book → Desk
board b = board_of b.limit b.entries

-- the call changed nothing, and answered as the board does
pub record Unchanged (a b : Book) (k : ℕ) (c : Call) (r : Reply) : Type 0 where
  pub same : b ≡ a
  pub answer : (act (board a) k c).1 ≡ r

-- the same ticket comes back, and is still the caller's
pub record KeepsTicket (Tells : Type 0) (Holds : Ticket → Type 0) (given back : Ticket) : Type 0 where
  pub tells : Tells
  pub same : back ≡ given
  pub holds : Holds back

-- the target runs the request from now on, which it never started before, as its own entries tell; the payload fits
pub record StartTells {P : Type 0} (fits : P → ℕ → List ℕ → Type 0) (Gains : Entry → Type 0) (old own : List Entry) (r : ℕ) (step : StepId) (words : List ℕ) (p : P) : Type 0 where
  pub gains : Gains (entry 0 call.Next (reply.Start r step words))
  pub fit : fits p step.0 words
  pub fresh : times (is_start r) old ≡ 0
  pub runs : Unfinished own r

-- the target still runs the request
pub record StopTells (Gains : Entry → Type 0) (own : List Entry) (r : ℕ) : Type 0 where
  pub gains : Gains (entry 0 call.Next (reply.Stop r))
  pub runs : Unfinished own r

abbrev pub NextTells : {P : Type 0} → (P → ℕ → List ℕ → Type 0) → (Entry → Type 0) → (Call → Reply → Type 0) → List Entry → List Entry → Next P → Type 0
NextTells fits Gains Stays old own (Start r step words p) = StartTells fits Gains old own r step words p
NextTells fits Gains Stays old own (Stop r) = StopTells Gains own r
NextTells fits Gains Stays old own Empty = Stays call.Next reply.Empty

module _ {P : Type 0} (fits : P → ℕ → List ℕ → Type 0) where
  -- the payload fits the step and words of the request
  abbrev pub FitsRequest : Desk → ℕ → P → Type 0
  FitsRequest d r p = (q : Request) × (slice_get d.requests r ≡ Some q) × fits p q.step.0 q.words

pub record WithdrawTells {P : Type 0} (fits : P → ℕ → List ℕ → Type 0) (Gains : Entry → Type 0) (d : Desk) (c r : ℕ) (p : P) : Type 0 where
  pub gains : Gains (entry c (call.Cancel r) reply.Withdrawn)
  pub fit : FitsRequest fits d r p

module _ {P : Type 0} (fits : P → ℕ → List ℕ → Type 0) (Gains : Entry → Type 0) (Stays : Call → Reply → Type 0) (Holds : Ticket → Type 0) where
  abbrev pub CancelTells : Desk → ℕ → Ticket → Cancelled P → Type 0
  CancelTells d c t (Withdrawn p) = WithdrawTells fits Gains d c (request t) p
  CancelTells d c t (Asked back) = KeepsTicket (Gains (entry c (call.Cancel (request t)) reply.Asked)) Holds t back
  CancelTells d c t (TooLate back) = KeepsTicket (Stays (call.Cancel (request t)) reply.TooLate) Holds t back

module _ {P R : Type 0} where
  -- the payload comes back where the history never starts the request, and a result where it does
  abbrev pub BackTells : List Entry → ℕ → Back P R → Type 0
  BackTells es r (Unstarted p) = starts_in es r ≡ 0
  BackTells es r (Ran x) = starts_in es r ≡ 1

module _ {P R : Type 0} (fits : P → ℕ → List ℕ → Type 0) where
  abbrev pub BackFits : Desk → ℕ → Back P R → Type 0
  BackFits d r (Unstarted p) = FitsRequest fits d r p
  BackFits d r (Ran x) = Unit {0}

pub record EndTells {P R : Type 0} (fits : P → ℕ → List ℕ → Type 0) (Gains : Entry → Type 0) (d : Desk) (es : List Entry) (c r : ℕ) (o : Outcome) (back : Back P R) : Type 0 where
  pub gains : Gains (entry c (call.Collect r) (reply.Ended o))
  pub fit : BackFits fits d r back
  pub came : BackTells es r back

module _ {P R : Type 0} (fits : P → ℕ → List ℕ → Type 0) (Gains : Entry → Type 0) (Stays : Call → Reply → Type 0) (Holds : Ticket → Type 0) where
  abbrev pub CollectTells : Desk → List Entry → ℕ → Ticket → Collected P R → Type 0
  CollectTells d es c t (NotYet back) = KeepsTicket (Stays (call.Collect (request t)) reply.NotYet) Holds t back
  CollectTells d es c t (Ended o back) = EndTells fits Gains d es c (request t) o back

module _ {P R : Type 0} where
  -- an outcome was given
  abbrev pub GivesOutcome : Collected P R → Type 0
  GivesOutcome (NotYet t) = ⊥
  GivesOutcome (Ended o back) = Unit {0}
