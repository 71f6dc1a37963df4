-- Histories of a board: which are legal, what board they leave, and what the entries of one caller tell.
use Rattle.std.specs.Prelude.{◌≡◌, ◌≢◌, ℕ, ◌+◌, ◌≤◌, ◌==◌, ◌||◌, if◌then◌else◌, Bool, true, false, cond, List, [], ◌∷◌, ◌++◌, slice_get, Option, Some, None}
use Rattle.std.specs.List.{filter}
use Rattle.executor_core.specs.declared.request.Request.{Request}
use Rattle.executor_core.specs.declared.entry.Entry.{Entry}
use Rattle.executor_core.specs.declared.call.Call.{Call}
use Rattle.executor_core.specs.declared.call.Call.TheVariants.{Finish, Cancel, Collect, Close}
use Rattle.executor_core.specs.declared.call.Reply.{Reply}
use Rattle.executor_core.specs.declared.call.Reply.TheVariants.{Ticket, Start, Withdrawn, Ended}
use Rattle.executor_core.specs.Acts.{Desk, desk, act, MayAct, queued_state, ended_state}

abbrev pub entry : ℕ → Call → Reply → Entry
entry c call reply = record { caller = c; call = call; reply = reply }

-- the board that entries leave
abbrev pub after : Desk → List Entry → Desk
after d [] = d
after d (e ∷ es) = after (act d e.caller e.call).0 es

-- each entry is a call that its caller may make, its reply is the board's, and it changes the board
abbrev pub LegalFrom : Desk → List Entry → Type 0
LegalFrom d [] = Unit {0}
LegalFrom d (e ∷ es) = MayAct d e.caller e.call × ((act d e.caller e.call).1 ≡ e.reply) × ((act d e.caller e.call).0 ≢ d) × LegalFrom (act d e.caller e.call).0 es

-- the board of an executor before any call
abbrev pub fresh : ℕ → Desk
fresh limit = desk limit false []

abbrev pub Legal : ℕ → List Entry → Type 0
Legal limit es = LegalFrom (fresh limit) es

abbrev pub board_of : ℕ → List Entry → Desk
board_of limit es = after (fresh limit) es

-- how many entries pass
abbrev pub times : (Entry → Bool) → List Entry → ℕ
times p [] = 0
times p (e ∷ es) = cond (p e) 1 0 + times p es

-- the entries of one caller
abbrev pub of_caller : ℕ → List Entry → List Entry
of_caller c es = filter (λ e. e.caller == c) es

-- the request is submitted by the entry
abbrev pub submits : ℕ → Reply → Bool
submits r (Ticket n) = n == r
submits r _ = false

-- the request starts at the entry
abbrev pub starts : ℕ → Reply → Bool
starts r (Start n step words) = n == r
starts r _ = false

-- the target finishes the request by the entry
abbrev pub finishes : ℕ → Call → Bool
finishes r (Finish n o) = n == r
finishes r _ = false

-- the request is Spent after the entry
abbrev pub spends : ℕ → Call → Reply → Bool
spends r (Cancel n) Withdrawn = n == r
spends r (Collect n) (Ended o) = n == r
spends r _ _ = false

abbrev pub gives_ticket : Reply → Bool
gives_ticket (Ticket n) = true
gives_ticket _ = false

abbrev pub gives_start : Reply → Bool
gives_start (Start n step words) = true
gives_start _ = false

abbrev pub asks_finish : Call → Bool
asks_finish (Finish n o) = true
asks_finish _ = false

abbrev pub asks_close : Call → Bool
asks_close Close = true
asks_close _ = false

-- some request is submitted, starts or is finished by the entry, and the executor is closed by it
abbrev pub is_any_submit : Entry → Bool
is_any_submit e = gives_ticket e.reply

abbrev pub is_any_start : Entry → Bool
is_any_start e = gives_start e.reply

abbrev pub is_any_finish : Entry → Bool
is_any_finish e = asks_finish e.call

abbrev pub is_close : Entry → Bool
is_close e = asks_close e.call

abbrev pub is_submit : ℕ → Entry → Bool
is_submit r e = submits r e.reply

abbrev pub is_start : ℕ → Entry → Bool
is_start r e = starts r e.reply

abbrev pub is_finish : ℕ → Entry → Bool
is_finish r e = finishes r e.call

abbrev pub is_spend : ℕ → Entry → Bool
is_spend r e = spends r e.call e.reply

-- 1 where the request is there and waits for its start, else 0
abbrev pub waits : Option Request → ℕ
waits None = 0
waits (Some q) = cond (queued_state q.state) 1 0

-- 1 where the request is there, else 0
abbrev pub there : Option Request → ℕ
there None = 0
there (Some q) = 1

-- 1 where the request is there and has ended, else 0
abbrev pub over : Option Request → ℕ
over None = 0
over (Some q) = cond (ended_state q.state) 1 0

-- how often the request ends by the call: by its finish, its withdrawal, or the closing that finds it queued
abbrev pub ends_by : Desk → ℕ → Call → Reply → ℕ
ends_by d r (Finish n o) reply = cond (n == r) 1 0
ends_by d r (Cancel n) Withdrawn = cond (n == r) 1 0
ends_by d r Close reply = waits (slice_get d.requests r)
ends_by d r _ _ = 0

abbrev pub ends_from : Desk → ℕ → List Entry → ℕ
ends_from d r [] = 0
ends_from d r (e ∷ es) = ends_by d r e.call e.reply + ends_from (act d e.caller e.call).0 r es

-- how often the request starts and ends in a history
abbrev pub starts_in : List Entry → ℕ → ℕ
starts_in es r = times (is_start r) es

abbrev pub ends_in : ℕ → List Entry → ℕ → ℕ
ends_in limit es r = ends_from (fresh limit) r es

-- the number is in the list
abbrev pub is_among : ℕ → List ℕ → Bool
is_among n [] = false
is_among n (m ∷ ms) = (m == n) || is_among n ms

-- the list without the number
abbrev pub without : ℕ → List ℕ → List ℕ
without n [] = []
without n (m ∷ ms) = if m == n then without n ms else m ∷ without n ms

abbrev pub with_submitted : List ℕ → Reply → List ℕ
with_submitted rs (Ticket n) = rs ++ n ∷ []
with_submitted rs _ = rs

abbrev pub without_spent : List ℕ → Call → Reply → List ℕ
without_spent rs (Cancel n) Withdrawn = without n rs
without_spent rs (Collect n) (Ended o) = without n rs
without_spent rs _ _ = rs

abbrev pub with_started : List ℕ → Reply → List ℕ
with_started rs (Start n step words) = rs ++ n ∷ []
with_started rs _ = rs

abbrev pub without_finished : List ℕ → Call → List ℕ
without_finished rs (Finish n o) = without n rs
without_finished rs _ = rs

-- of requests of a caller that are open, and its entries from then on: what is open then
abbrev pub outstanding_from : List ℕ → List Entry → List ℕ
outstanding_from rs [] = rs
outstanding_from rs (e ∷ es) = outstanding_from (without_spent (with_submitted rs e.reply) e.call e.reply) es

abbrev pub unfinished_from : List ℕ → List Entry → List ℕ
unfinished_from rs [] = rs
unfinished_from rs (e ∷ es) = unfinished_from (without_finished (with_started rs e.reply) e.call) es

-- by its own entries, what a caller submitted and did not withdraw or collect since, in the order of submission
abbrev pub outstanding : List Entry → List ℕ
outstanding mine = outstanding_from [] mine

-- by its own entries, what the target started and did not finish since, in the order of its starts
abbrev pub unfinished : List Entry → List ℕ
unfinished mine = unfinished_from [] mine

-- of its own entries that submit, withdraw or collect the request, the last submits it
abbrev pub Outstanding : List Entry → ℕ → Type 0
Outstanding mine r = is_among r (outstanding mine) ≡ true

-- of its own entries that start or finish the request, the last starts it
abbrev pub Unfinished : List Entry → ℕ → Type 0
Unfinished mine r = is_among r (unfinished mine) ≡ true

-- by its own entries, the target has finished what it started
abbrev pub AllFinished : List Entry → Type 0
AllFinished mine = (r : ℕ) → Unfinished mine r → ⊥

-- by its own entries, a caller has withdrawn or collected what it submitted
abbrev pub AllSpent : List Entry → Type 0
AllSpent mine = (r : ℕ) → Outstanding mine r → ⊥

-- all that the caller submitted but this request is withdrawn or collected
abbrev pub AllSpentBut : ℕ → List Entry → Type 0
AllSpentBut n mine = (r : ℕ) → Outstanding mine r → r ≡ n

-- all that the target started but this request is finished
abbrev pub AllFinishedBut : ℕ → List Entry → Type 0
AllFinishedBut n mine = (r : ℕ) → Unfinished mine r → r ≡ n

-- each request has ended, has started at most once and ended exactly once
abbrev pub Settled : ℕ → List Entry → Type 0
Settled limit es = (r : ℕ) (q : Request) → slice_get (board_of limit es).requests r ≡ Some q → (ended_state q.state ≡ true) × (starts_in es r ≤ 1) × (ends_in limit es r ≡ 1)
