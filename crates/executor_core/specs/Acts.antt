-- The board as plain data, and the one function that says what each call answers and changes.
use Rattle.std.specs.Prelude.{◌≡◌, ℕ, ◌<◌, Bool, true, false, List, [], ◌∷◌, ◌++◌, map, length, slice_get, slice_set, nat_le, if◌then◌else◌, Option, Some, None, Result, Ok, Err}
use Rattle.std.specs.List.{position_from}
use Rattle.kj_base.specs.declared.numbers.StepId.{StepId}
use Rattle.kj_base.specs.declared.outcomes.Kind.TheVariants.{Disconnected}
use Rattle.kj_base.specs.declared.outcomes.Outcome.{Outcome}
use Rattle.kj_base.specs.declared.outcomes.Outcome.TheVariants.{Broken}
use Rattle.executor_core.specs.declared.request.State.{State}
use Rattle.executor_core.specs.declared.request.State.TheVariants.{Queued, Executing, Canceling, Stopping, Done as DoneState, Spent}
use Rattle.executor_core.specs.declared.request.Request.{Request}
use Rattle.executor_core.specs.declared.call.Call.{Call}
use Rattle.executor_core.specs.declared.call.Call.TheVariants.{Submit, Next, Finish, Cancel, Collect, Close}
use Rattle.executor_core.specs.declared.call.Reply.{Reply}
use Rattle.executor_core.specs.declared.call.Reply.TheVariants.{Closed, Full, Ticket, Start, Stop, Empty, Done, Withdrawn, Asked, TooLate, Ended, NotYet}
use Rattle.executor_core.specs.declared.answers.NotTaken.{NotTaken}
use Rattle.executor_core.specs.declared.answers.NotTaken.TheVariants as refusal
use Rattle.executor_core.specs.declared.answers.Chosen.{Chosen}
use Rattle.executor_core.specs.declared.answers.Chosen.TheVariants as chosen
use Rattle.executor_core.specs.declared.answers.Cancelling.{Cancelling}
use Rattle.executor_core.specs.declared.answers.Cancelling.TheVariants as cancelling

pub record Desk : Type 0 where
  pub limit : ℕ
  pub closed : Bool
  pub requests : List Request

abbrev pub desk : ℕ → Bool → List Request → Desk
desk l c rs = record { limit = l; closed = c; requests = rs }

abbrev pub queued_state : State → Bool
queued_state Queued = true
queued_state _ = false

abbrev pub canceling_state : State → Bool
canceling_state Canceling = true
canceling_state _ = false

-- the target works on it
abbrev pub running_state : State → Bool
running_state Executing = true
running_state Canceling = true
running_state Stopping = true
running_state _ = false

abbrev pub spent_state : State → Bool
spent_state Spent = true
spent_state _ = false

-- Done or Spent
abbrev pub ended_state : State → Bool
ended_state (DoneState o) = true
ended_state Spent = true
ended_state _ = false

abbrev pub is_queued : Request → Bool
is_queued q = queued_state q.state

abbrev pub is_canceling : Request → Bool
is_canceling q = canceling_state q.state

-- the least request that passes
abbrev pub least : (Request → Bool) → List Request → Option ℕ
least p rs = position_from p 0 rs

abbrev pub set_state : List Request → ℕ → State → List Request
set_state rs r st = elim (slice_get rs r) [ None ↦ rs | Some q ↦ slice_set rs r (record q { state = st }) ]

abbrev pub with_state : Desk → ℕ → State → Desk
with_state d r st = desk d.limit d.closed (set_state d.requests r st)

abbrev pub new_request : ℕ → StepId → List ℕ → Request
new_request c step words = record { caller = c; step = step; words = words; state = Queued }

abbrev pub submitted : Desk → ℕ → StepId → List ℕ → Desk × Reply
submitted d c step words =
    if d.closed then (d, Closed)
    else if nat_le d.limit (length d.requests) then (d, Full)
    else (desk d.limit d.closed (d.requests ++ new_request c step words ∷ []), Ticket (length d.requests))

abbrev pub start_of : List Request → ℕ → Reply
start_of rs r = elim (slice_get rs r) [ None ↦ Empty | Some q ↦ Start r q.step q.words ]

abbrev pub stopped : Desk → Desk × Reply
stopped d = elim (least is_canceling d.requests) [ None ↦ (d, Empty) | Some r ↦ (with_state d r Stopping, Stop r) ]

abbrev pub nexted : Desk → Desk × Reply
nexted d = elim (least is_queued d.requests) [ None ↦ stopped d | Some r ↦ (with_state d r Executing, start_of d.requests r) ]

abbrev pub finished : Desk → ℕ → Outcome → Desk × Reply
finished d r o = (with_state d r (DoneState o), Done)

abbrev pub cancelled_at : Desk → ℕ → State → Desk × Reply
cancelled_at d r Queued = (with_state d r Spent, Withdrawn)
cancelled_at d r Executing = (with_state d r Canceling, Asked)
cancelled_at d r _ = (d, TooLate)

abbrev pub cancelled : Desk → ℕ → Desk × Reply
cancelled d r = elim (slice_get d.requests r) [ None ↦ (d, TooLate) | Some q ↦ cancelled_at d r q.state ]

abbrev pub collected_at : Desk → ℕ → State → Desk × Reply
collected_at d r (DoneState o) = (with_state d r Spent, Ended o)
collected_at d r _ = (d, NotYet)

abbrev pub collected : Desk → ℕ → Desk × Reply
collected d r = elim (slice_get d.requests r) [ None ↦ (d, NotYet) | Some q ↦ collected_at d r q.state ]

-- the outcome of a request that no target will run
abbrev pub disconnected : Outcome
disconnected = Broken record { kind = Disconnected; code = 3 }

abbrev pub shut : Request → Request
shut q = if is_queued q then record q { state = DoneState disconnected } else q

abbrev pub closes : Desk → Desk × Reply
closes d = if d.closed then (d, Done) else (desk d.limit true (map shut d.requests), Done)

abbrev pub act : Desk → ℕ → Call → Desk × Reply
act d c (Submit step words) = submitted d c step words
act d c Next = nexted d
act d c (Finish r o) = finished d r o
act d c (Cancel r) = cancelled d r
act d c (Collect r) = collected d r
act d c Close = closes d

-- the request is its caller's, and is not spent
abbrev pub IsOwn : Desk → ℕ → ℕ → Type 0
IsOwn d c r = (q : Request) × (slice_get d.requests r ≡ Some q) × (q.caller ≡ c) × (spent_state q.state ≡ false)

abbrev pub IsRunning : Desk → ℕ → Type 0
IsRunning d r = (q : Request) × (slice_get d.requests r ≡ Some q) × (running_state q.state ≡ true)

abbrev pub NoneRuns : Desk → Type 0
NoneRuns d = (r : ℕ) (q : Request) → slice_get d.requests r ≡ Some q → running_state q.state ≡ false

-- who may make which call when
abbrev pub MayAct : Desk → ℕ → Call → Type 0
MayAct d c (Submit step words) = Unit {0}
MayAct d c Next = c ≡ 0
MayAct d c (Finish r o) = (c ≡ 0) × IsRunning d r
MayAct d c (Cancel r) = IsOwn d c r
MayAct d c (Collect r) = IsOwn d c r
MayAct d c Close = (c ≡ 0) × NoneRuns d

-- the replies that the typed answers of the calls stand for
abbrev pub refusal_reply : NotTaken → Reply
refusal_reply refusal.Closed = Closed
refusal_reply refusal.Full = Full

abbrev pub submit_reply : Result ℕ NotTaken → Reply
submit_reply (Ok r) = Ticket r
submit_reply (Err e) = refusal_reply e

abbrev pub next_reply : Chosen → Reply
next_reply (chosen.Start r step words) = Start r step words
next_reply (chosen.Stop r) = Stop r
next_reply chosen.Empty = Empty

abbrev pub cancel_reply : Cancelling → Reply
cancel_reply cancelling.Withdrawn = Withdrawn
cancel_reply cancelling.Asked = Asked
cancel_reply cancelling.TooLate = TooLate

abbrev pub collect_reply : Option Outcome → Reply
collect_reply (Some o) = Ended o
collect_reply None = NotYet

-- no request below n passes
abbrev pub NoneBelow : (Request → Bool) → List Request → ℕ → Type 0
NoneBelow p rs n = (k : ℕ) (q : Request) → k < n → slice_get rs k ≡ Some q → p q ≡ false
