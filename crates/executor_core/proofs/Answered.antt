-- What each answer tells of the board: a move, or no change.
use Rattle.std.proofs.Common.{◌≡◌, ℕ, ◌<◌, ◌≢◌, Bool, true, false, cond, List, [], ◌∷◌, ◌++◌, map, length, refl, ap, ◌∙◌, subst, sym, arith, ⊎_elim, length-append, Option, Some, None, nat_le}
use Rattle.std.specs.Prelude.{slice_get}
use Rattle.std.proofs.lemmas.Bool.{leb-false}
use Rattle.kj_base.specs.declared.numbers.StepId.{StepId}
use Rattle.kj_base.specs.declared.outcomes.Outcome.{Outcome}
use Rattle.executor_core.specs.declared.request.State.{State}
use Rattle.executor_core.specs.declared.request.State.TheVariants.{Queued, Executing, Canceling, Stopping, Done as DoneState, Spent}
use Rattle.executor_core.specs.declared.request.Request.{Request}
use Rattle.executor_core.specs.declared.entry.Entry.{Entry}
use Rattle.executor_core.specs.declared.call.Call.{Call}
use Rattle.executor_core.specs.declared.call.Call.TheVariants.{Submit, Next, Finish, Cancel, Collect, Close}
use Rattle.executor_core.specs.declared.call.Reply.{Reply}
use Rattle.executor_core.specs.declared.call.Reply.TheVariants.{Closed, Full, Ticket, Start, Stop, Empty, Done, Withdrawn, Asked, TooLate, Ended, NotYet}
use Rattle.executor_core.specs.Acts.{Desk, desk, act, MayAct, IsOwn, IsRunning, NoneRuns, least, is_queued, is_canceling, queued_state, canceling_state, running_state, set_state, with_state, new_request, submitted, stopped, nexted, finished, cancelled, cancelled_at, collected, collected_at, start_of, closes, shut}
use Rattle.executor_core.specs.Histories.{entry, fresh, Legal, board_of}
use Rattle.executor_core.proofs.Moves.{Shift, Starts, Stops, Finishes, Withdraws, Asks, Collects, Move, Submits, Sets, Closes, least_is, started}
use Rattle.executor_core.proofs.Steps.{at_state}
use Rattle.executor_core.proofs.Legal.{after_append, legal_append}

shift_changes : (k r : ℕ) (q : Request) (call : Call) (reply : Reply) (st : State) → Shift k r q call reply st → q.state ≡ st → ⊥
shift_changes k r q _ _ _ (Starts t w) e = let f : queued_state q.state ≡ false = ap queued_state e in cc
shift_changes k r q _ _ _ (Stops t w) e = let f : canceling_state q.state ≡ false = ap canceling_state e in cc
shift_changes k r q _ _ _ (Finishes o t w) e = let f : running_state q.state ≡ false = ap running_state e in cc
shift_changes k r q _ _ _ (Withdraws t w) e = let f : queued_state q.state ≡ false = ap queued_state e in cc
shift_changes k r q _ _ _ (Asks t w) e = cc
shift_changes k r q _ _ _ (Collects o t w) e = cc

-- a move changes the board
pub move_changes : (d : Desk) (k : ℕ) (call : Call) (reply : Reply) (d' : Desk) → Move d k call reply d' → d' ≢ d
move_changes d k _ _ _ (Submits step words opened room) e =
    let l = ap (λ (x : Desk). length x.requests) e in let m = length-append d.requests (new_request k step words ∷ []) in omega arith
move_changes d k call reply _ (Sets _ _ r q st at shift) e = let same : slice_get (set_state d.requests r st) r ≡ Some q = ap (λ (x : Desk). slice_get x.requests r) e ∙ at in
    ⊎_elim (λ h. let g : record q { state = st } ≡ q = let f = h.2 in cc in shift_changes k r q call reply st shift (sym (ap (λ (x : Request). x.state) g))) (λ h. h.0 refl) (at_state d.requests r q st at r)
move_changes d k _ _ _ (Closes target none opened) e = let f : true ≡ d.closed = ap (λ (x : Desk). x.closed) e in cc

-- what a move to a board leaves is one legal entry more
pub grows : (limit : ℕ) (es : List Entry) (b d : Desk) (k : ℕ) (call : Call) (reply : Reply) → Legal limit es → b ≡ board_of limit es → MayAct b k call → (d, reply) ≡ act b k call → d ≢ b
    → Legal limit (es ++ entry k call reply ∷ []) × (d ≡ board_of limit (es ++ entry k call reply ∷ []))
grows limit es b d k call reply l is may did changes = let at : act b k call ≡ act (board_of limit es) k call = ap (λ (x : Desk). act x k call) is in let same : (d, reply) ≡ act (board_of limit es) k call = did ∙ at in (
  legal_append (fresh limit) es (entry k call reply ∷ []) l (
    subst (λ (x : Desk). MayAct x k call) is may,
    sym (ap (λ (x : Desk × Reply). x.1) same),
    (λ e. changes (ap (λ (x : Desk × Reply). x.0) same ∙ e ∙ sym is)),
    tt,
  ),
  ap (λ (x : Desk × Reply). x.0) same ∙ sym (after_append (fresh limit) es (entry k call reply ∷ [])),
)

-- the answers to a submission
ticket_cases : (b₁ b₂ : Bool) (d x new : Desk) (n r : ℕ) → (new, Ticket r) ≡ cond {A = Desk × Reply} b₁ (d, Closed) (cond b₂ (d, Full) (x, Ticket n)) → (b₁ ≡ false) × (b₂ ≡ false) × (r ≡ n) × (new ≡ x)
ticket_cases true b₂ d x new n r e = let f : Ticket r ≡ Closed = ap (λ (z : Desk × Reply). z.1) e in absurd cc
ticket_cases false true d x new n r e = let f : Ticket r ≡ Full = ap (λ (z : Desk × Reply). z.1) e in absurd cc
ticket_cases false false d x new n r e = (refl, refl, (let f : Ticket r ≡ Ticket n = ap (λ (z : Desk × Reply). z.1) e in cc), ap (λ (z : Desk × Reply). z.0) e)

pub submit_ok : (d : Desk) (k : ℕ) (step : StepId) (words : List ℕ) (d' : Desk) (r : ℕ) → (d', Ticket r) ≡ submitted d k step words
    → (r ≡ length d.requests) × (length d.requests < d.limit) × (d' ≡ desk d.limit d.closed (d.requests ++ new_request k step words ∷ [])) × (d' ≢ d)
submit_ok d k step words d' r e =
    let h = ticket_cases d.closed (nat_le d.limit (length d.requests)) d (desk d.limit d.closed (d.requests ++ new_request k step words ∷ [])) d' (length d.requests) r e in
    let room = leb-false d.limit (length d.requests) h.1 in
    (h.2, room, h.3, λ same. move_changes d k (Submit step words) (Ticket (length d.requests)) (desk d.limit d.closed (d.requests ++ new_request k step words ∷ [])) (Submits step words h.0 room) (sym h.3 ∙ same))

no_ticket : (b₁ b₂ : Bool) (d x new : Desk) (n : ℕ) (reply : Reply) → ((r : ℕ) → reply ≡ Ticket r → ⊥) → (new, reply) ≡ cond {A = Desk × Reply} b₁ (d, Closed) (cond b₂ (d, Full) (x, Ticket n)) → new ≡ d
no_ticket true b₂ d x new n reply none e = ap (λ (z : Desk × Reply). z.0) e
no_ticket false true d x new n reply none e = ap (λ (z : Desk × Reply). z.0) e
no_ticket false false d x new n reply none e = absurd (none n (ap (λ (z : Desk × Reply). z.1) e))

-- a submission that was not taken changes nothing
pub submit_closed : (d : Desk) (k : ℕ) (step : StepId) (words : List ℕ) (d' : Desk) → (d', Closed) ≡ submitted d k step words → d' ≡ d
submit_closed d k step words d' e = no_ticket d.closed (nat_le d.limit (length d.requests)) d _ d' (length d.requests) Closed (λ r f. cc) e

pub submit_full : (d : Desk) (k : ℕ) (step : StepId) (words : List ℕ) (d' : Desk) → (d', Full) ≡ submitted d k step words → d' ≡ d
submit_full d k step words d' e = no_ticket d.closed (nat_le d.limit (length d.requests)) d _ d' (length d.requests) Full (λ r f. cc) e

-- what the three answers to the target tell
data NextTells (d d' : Desk) : Reply → Type 0 where
  TellsStart : (r : ℕ) (q : Request) → slice_get d.requests r ≡ Some q → queued_state q.state ≡ true → d' ≡ with_state d r Executing → NextTells d d' (Start r q.step q.words)
  TellsStop : (r : ℕ) (q : Request) → slice_get d.requests r ≡ Some q → canceling_state q.state ≡ true → d' ≡ with_state d r Stopping → NextTells d d' (Stop r)
  TellsEmpty : d' ≡ d → NextTells d d' Empty

stop_tells : (d : Desk) (o : Option ℕ) → least is_canceling d.requests ≡ o → let x : Desk × Reply = elim o [ None ↦ (d, Empty) | Some r ↦ (with_state d r Stopping, Stop r) ] in NextTells d x.0 x.1
stop_tells d None is = TellsEmpty refl
stop_tells d (Some r) is = let h = least_is is_canceling d.requests r is in TellsStop r h.0 h.1 h.2 refl

next_tells_of : (d : Desk) (o : Option ℕ) → least is_queued d.requests ≡ o → let x : Desk × Reply = elim o [ None ↦ stopped d | Some r ↦ (with_state d r Executing, start_of d.requests r) ] in NextTells d x.0 x.1
next_tells_of d None is = stop_tells d (least is_canceling d.requests) refl
next_tells_of d (Some r) is = let h = least_is is_queued d.requests r is in
    subst (NextTells d (with_state d r Executing)) (sym (started d.requests r h.0 h.1)) (TellsStart r h.0 h.1 h.2 refl)

next_tells : (d d' : Desk) (reply : Reply) → (d', reply) ≡ nexted d → NextTells d d' reply
next_tells d d' reply e = subst (λ (x : Desk × Reply). NextTells d x.0 x.1) (sym e) (next_tells_of d (least is_queued d.requests) refl)

start_told : (d d' : Desk) (reply : Reply) → NextTells d d' reply → (r : ℕ) (step : StepId) (words : List ℕ) → reply ≡ Start r step words
    → (q : Request) × (slice_get d.requests r ≡ Some q) × (queued_state q.state ≡ true) × (q.step ≡ step) × (q.words ≡ words) × (d' ≡ with_state d r Executing)
start_told d d' _ (TellsStart n q at w is) r step words e =
    let a : n ≡ r = cc in (q, ap (slice_get d.requests) (sym a) ∙ at, w, (let b : q.step ≡ step = cc in b), (let b : q.words ≡ words = cc in b), is ∙ ap (λ (m : ℕ). with_state d m Executing) a)
start_told d d' _ (TellsStop n q at w is) r step words e = absurd cc
start_told d d' _ (TellsEmpty is) r step words e = absurd cc

stop_told : (d d' : Desk) (reply : Reply) → NextTells d d' reply → (r : ℕ) → reply ≡ Stop r → (q : Request) × (slice_get d.requests r ≡ Some q) × (canceling_state q.state ≡ true) × (d' ≡ with_state d r Stopping)
stop_told d d' _ (TellsStart n q at w is) r e = absurd cc
stop_told d d' _ (TellsStop n q at w is) r e = let a : n ≡ r = cc in (q, ap (slice_get d.requests) (sym a) ∙ at, w, is ∙ ap (λ (m : ℕ). with_state d m Stopping) a)
stop_told d d' _ (TellsEmpty is) r e = absurd cc

empty_told : (d d' : Desk) (reply : Reply) → NextTells d d' reply → reply ≡ Empty → d' ≡ d
empty_told d d' _ (TellsStart n q at w is) e = absurd cc
empty_told d d' _ (TellsStop n q at w is) e = absurd cc
empty_told d d' _ (TellsEmpty is) e = is

set_changes : (d d' : Desk) (k : ℕ) (call : Call) (reply : Reply) (r : ℕ) (q : Request) (st : State) → slice_get d.requests r ≡ Some q → Shift k r q call reply st → d' ≡ with_state d r st → d' ≢ d
set_changes d d' k call reply r q st at shift is same = move_changes d k call reply (with_state d r st) (Sets call reply r q st at shift) (sym is ∙ same)

pub next_start : (d d' : Desk) (r : ℕ) (step : StepId) (words : List ℕ) → (d', Start r step words) ≡ nexted d
    → (q : Request) × (slice_get d.requests r ≡ Some q) × (queued_state q.state ≡ true) × (q.step ≡ step) × (q.words ≡ words) × (d' ≡ with_state d r Executing) × (d' ≢ d)
next_start d d' r step words e = let h = start_told d d' (Start r step words) (next_tells d d' (Start r step words) e) r step words refl in
    (h.0, h.1, h.2, h.3, h.4, h.5, set_changes d d' 0 Next (Start r h.0.step h.0.words) r h.0 Executing h.1 (Starts refl h.2) h.5)

pub next_stop : (d d' : Desk) (r : ℕ) → (d', Stop r) ≡ nexted d → (q : Request) × (slice_get d.requests r ≡ Some q) × (canceling_state q.state ≡ true) × (d' ≡ with_state d r Stopping) × (d' ≢ d)
next_stop d d' r e = let h = stop_told d d' (Stop r) (next_tells d d' (Stop r) e) r refl in (h.0, h.1, h.2, h.3, set_changes d d' 0 Next (Stop r) r h.0 Stopping h.1 (Stops refl h.2) h.3)

pub next_empty : (d d' : Desk) → (d', Empty) ≡ nexted d → d' ≡ d
next_empty d d' e = empty_told d d' Empty (next_tells d d' Empty e) refl

pub finish_done : (d d' : Desk) (r : ℕ) (o : Outcome) → IsRunning d r → (d', Done) ≡ finished d r o → (d' ≡ with_state d r (DoneState o)) × (d' ≢ d)
finish_done d d' r o run e = let is : d' ≡ with_state d r (DoneState o) = ap (λ (x : Desk × Reply). x.0) e in (is, set_changes d d' 0 (Finish r o) Done r run.0 (DoneState o) run.1 (Finishes o refl run.2) is)

cancelled_is : (d : Desk) (r : ℕ) (q : Request) → slice_get d.requests r ≡ Some q → cancelled d r ≡ cancelled_at d r q.state
cancelled_is d r q at = ap (λ (o : Option Request). elim o as (λ _. Desk × Reply) [ None ↦ (d, TooLate) | Some q ↦ cancelled_at d r q.state ]) at

withdrawn_at : (d : Desk) (r : ℕ) (st : State) (d' : Desk) → (d', Withdrawn) ≡ cancelled_at d r st → (queued_state st ≡ true) × (d' ≡ with_state d r Spent)
withdrawn_at d r Queued d' e = (refl, ap (λ (x : Desk × Reply). x.0) e)
withdrawn_at d r Executing d' e = let f : Withdrawn ≡ Asked = ap (λ (x : Desk × Reply). x.1) e in absurd cc
withdrawn_at d r Canceling d' e = let f : Withdrawn ≡ TooLate = ap (λ (x : Desk × Reply). x.1) e in absurd cc
withdrawn_at d r Stopping d' e = let f : Withdrawn ≡ TooLate = ap (λ (x : Desk × Reply). x.1) e in absurd cc
withdrawn_at d r (DoneState o) d' e = let f : Withdrawn ≡ TooLate = ap (λ (x : Desk × Reply). x.1) e in absurd cc
withdrawn_at d r Spent d' e = let f : Withdrawn ≡ TooLate = ap (λ (x : Desk × Reply). x.1) e in absurd cc

asked_at : (d : Desk) (r : ℕ) (st : State) (d' : Desk) → (d', Asked) ≡ cancelled_at d r st → (st ≡ Executing) × (d' ≡ with_state d r Canceling)
asked_at d r Queued d' e = let f : Asked ≡ Withdrawn = ap (λ (x : Desk × Reply). x.1) e in absurd cc
asked_at d r Executing d' e = (refl, ap (λ (x : Desk × Reply). x.0) e)
asked_at d r Canceling d' e = let f : Asked ≡ TooLate = ap (λ (x : Desk × Reply). x.1) e in absurd cc
asked_at d r Stopping d' e = let f : Asked ≡ TooLate = ap (λ (x : Desk × Reply). x.1) e in absurd cc
asked_at d r (DoneState o) d' e = let f : Asked ≡ TooLate = ap (λ (x : Desk × Reply). x.1) e in absurd cc
asked_at d r Spent d' e = let f : Asked ≡ TooLate = ap (λ (x : Desk × Reply). x.1) e in absurd cc

late_at : (d : Desk) (r : ℕ) (st : State) (d' : Desk) → (d', TooLate) ≡ cancelled_at d r st → d' ≡ d
late_at d r Queued d' e = let f : TooLate ≡ Withdrawn = ap (λ (x : Desk × Reply). x.1) e in absurd cc
late_at d r Executing d' e = let f : TooLate ≡ Asked = ap (λ (x : Desk × Reply). x.1) e in absurd cc
late_at d r Canceling d' e = ap (λ (x : Desk × Reply). x.0) e
late_at d r Stopping d' e = ap (λ (x : Desk × Reply). x.0) e
late_at d r (DoneState o) d' e = ap (λ (x : Desk × Reply). x.0) e
late_at d r Spent d' e = ap (λ (x : Desk × Reply). x.0) e

pub cancel_withdrawn : (d d' : Desk) (k r : ℕ) (own : IsOwn d k r) → (d', Withdrawn) ≡ cancelled d r → (queued_state own.0.state ≡ true) × (d' ≡ with_state d r Spent) × (d' ≢ d)
cancel_withdrawn d d' k r own e = let h = withdrawn_at d r own.0.state d' (e ∙ cancelled_is d r own.0 own.1) in (h.0, h.1, set_changes d d' k (Cancel r) Withdrawn r own.0 Spent own.1 (Withdraws own.2 h.0) h.1)

pub cancel_asked : (d d' : Desk) (k r : ℕ) (own : IsOwn d k r) → (d', Asked) ≡ cancelled d r → (own.0.state ≡ Executing) × (d' ≡ with_state d r Canceling) × (d' ≢ d)
cancel_asked d d' k r own e = let h = asked_at d r own.0.state d' (e ∙ cancelled_is d r own.0 own.1) in (h.0, h.1, set_changes d d' k (Cancel r) Asked r own.0 Canceling own.1 (Asks own.2 h.0) h.1)

pub cancel_late : (d d' : Desk) (k r : ℕ) → IsOwn d k r → (d', TooLate) ≡ cancelled d r → d' ≡ d
cancel_late d d' k r own e = late_at d r own.0.state d' (e ∙ cancelled_is d r own.0 own.1)

pub collected_is : (d : Desk) (r : ℕ) (q : Request) → slice_get d.requests r ≡ Some q → collected d r ≡ collected_at d r q.state
collected_is d r q at = ap (λ (o : Option Request). elim o as (λ _. Desk × Reply) [ None ↦ (d, NotYet) | Some q ↦ collected_at d r q.state ]) at

ended_at : (d : Desk) (r : ℕ) (st : State) (d' : Desk) (o : Outcome) → (d', Ended o) ≡ collected_at d r st → (st ≡ DoneState o) × (d' ≡ with_state d r Spent)
ended_at d r Queued d' o e = let f : Ended o ≡ NotYet = ap (λ (x : Desk × Reply). x.1) e in absurd cc
ended_at d r Executing d' o e = let f : Ended o ≡ NotYet = ap (λ (x : Desk × Reply). x.1) e in absurd cc
ended_at d r Canceling d' o e = let f : Ended o ≡ NotYet = ap (λ (x : Desk × Reply). x.1) e in absurd cc
ended_at d r Stopping d' o e = let f : Ended o ≡ NotYet = ap (λ (x : Desk × Reply). x.1) e in absurd cc
ended_at d r (DoneState p) d' o e = let f : Ended o ≡ Ended p = ap (λ (x : Desk × Reply). x.1) e in (let g : DoneState p ≡ DoneState o = cc in g, ap (λ (x : Desk × Reply). x.0) e)
ended_at d r Spent d' o e = let f : Ended o ≡ NotYet = ap (λ (x : Desk × Reply). x.1) e in absurd cc

not_yet_at : (d : Desk) (r : ℕ) (st : State) (d' : Desk) → (d', NotYet) ≡ collected_at d r st → d' ≡ d
not_yet_at d r Queued d' e = ap (λ (x : Desk × Reply). x.0) e
not_yet_at d r Executing d' e = ap (λ (x : Desk × Reply). x.0) e
not_yet_at d r Canceling d' e = ap (λ (x : Desk × Reply). x.0) e
not_yet_at d r Stopping d' e = ap (λ (x : Desk × Reply). x.0) e
not_yet_at d r (DoneState o) d' e = let f : NotYet ≡ Ended o = ap (λ (x : Desk × Reply). x.1) e in absurd cc
not_yet_at d r Spent d' e = ap (λ (x : Desk × Reply). x.0) e

pub collect_ended : (d d' : Desk) (k r : ℕ) (o : Outcome) (own : IsOwn d k r) → (d', Ended o) ≡ collected d r → (own.0.state ≡ DoneState o) × (d' ≡ with_state d r Spent) × (d' ≢ d)
collect_ended d d' k r o own e = let h = ended_at d r own.0.state d' o (e ∙ collected_is d r own.0 own.1) in (h.0, h.1, set_changes d d' k (Collect r) (Ended o) r own.0 Spent own.1 (Collects o own.2 h.0) h.1)

pub collect_not_yet : (d d' : Desk) (k r : ℕ) → IsOwn d k r → (d', NotYet) ≡ collected d r → d' ≡ d
collect_not_yet d d' k r own e = not_yet_at d r own.0.state d' (e ∙ collected_is d r own.0 own.1)

closes_when : (b : Bool) (d x d' : Desk) → (d', Done) ≡ cond {A = Desk × Reply} b (d, Done) (x, Done) → (b ≡ false → d' ≡ x) × (b ≡ true → d' ≡ d)
closes_when true d x d' e = ((λ f. absurd cc), (λ _. ap (λ (z : Desk × Reply). z.0) e))
closes_when false d x d' e = ((λ _. ap (λ (z : Desk × Reply). z.0) e), (λ f. absurd cc))

pub close_open : (d d' : Desk) → NoneRuns d → d.closed ≡ false → (d', Done) ≡ closes d → (d' ≡ desk d.limit true (map shut d.requests)) × (d' ≢ d)
close_open d d' none opened e = let is = (closes_when d.closed d (desk d.limit true (map shut d.requests)) d' e).0 opened in (is, λ same. move_changes d 0 Close Done (desk d.limit true (map shut d.requests)) (Closes refl none opened) (sym is ∙ same))

pub close_closed : (d d' : Desk) → d.closed ≡ true → (d', Done) ≡ closes d → d' ≡ d
close_closed d d' closed e = (closes_when d.closed d (desk d.limit true (map shut d.requests)) d' e).1 closed
