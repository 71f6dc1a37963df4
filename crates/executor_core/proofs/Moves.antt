-- What a call that changes the board does to it: a request more, another state of one request, or the closing.
use Rattle.std.proofs.Common.{◌≡◌, ℕ, suc, ◌+◌, ◌<◌, ◌≢◌, Bool, true, false, cond, List, [], ◌∷◌, ◌++◌, map, length, refl, ap, ◌∙◌, subst, sym, arith, Option, Some, None, nat_le}
use Rattle.std.specs.Prelude.{slice_get}
use Rattle.std.specs.List.{position_from}
use Rattle.std.proofs.lemmas.Bool.{leb-false}
use Rattle.kj_base.specs.declared.numbers.StepId.{StepId}
use Rattle.kj_base.specs.declared.outcomes.Outcome.{Outcome}
use Rattle.executor_core.specs.declared.request.State.{State}
use Rattle.executor_core.specs.declared.request.State.TheVariants.{Queued, Executing, Canceling, Stopping, Done as DoneState, Spent}
use Rattle.executor_core.specs.declared.request.Request.{Request}
use Rattle.executor_core.specs.declared.call.Call.{Call}
use Rattle.executor_core.specs.declared.call.Call.TheVariants.{Submit, Next, Finish, Cancel, Collect, Close}
use Rattle.executor_core.specs.declared.call.Reply.{Reply}
use Rattle.executor_core.specs.declared.call.Reply.TheVariants.{Closed, Full, Ticket, Start, Stop, Empty, Done, Withdrawn, Asked, TooLate, Ended, NotYet}
use Rattle.executor_core.specs.Acts.{Desk, desk, act, MayAct, IsOwn, NoneRuns, least, is_queued, is_canceling, queued_state, canceling_state, running_state, with_state, new_request, submitted, start_of, stopped, nexted, cancelled, cancelled_at, collected, collected_at, closes, shut}

-- request r, which is q, goes to another state by a call of k
pub data Shift (k : ℕ) (r : ℕ) (q : Request) : Call → Reply → State → Type 0 where
  Starts : k ≡ 0 → queued_state q.state ≡ true → Shift k r q Next (Start r q.step q.words) Executing
  Stops : k ≡ 0 → canceling_state q.state ≡ true → Shift k r q Next (Stop r) Stopping
  Finishes : (o : Outcome) → k ≡ 0 → running_state q.state ≡ true → Shift k r q (Finish r o) Done (DoneState o)
  Withdraws : q.caller ≡ k → queued_state q.state ≡ true → Shift k r q (Cancel r) Withdrawn Spent
  Asks : q.caller ≡ k → q.state ≡ Executing → Shift k r q (Cancel r) Asked Canceling
  Collects : (o : Outcome) → q.caller ≡ k → q.state ≡ DoneState o → Shift k r q (Collect r) (Ended o) Spent

pub data Move (d : Desk) (k : ℕ) : Call → Reply → Desk → Type 0 where
  Submits : (step : StepId) (words : List ℕ) → d.closed ≡ false → length d.requests < d.limit → Move d k (Submit step words) (Ticket (length d.requests)) (desk d.limit d.closed (d.requests ++ new_request k step words ∷ []))
  Sets : (call : Call) (reply : Reply) (r : ℕ) (q : Request) (st : State) → slice_get d.requests r ≡ Some q → Shift k r q call reply st → Move d k call reply (with_state d r st)
  Closes : k ≡ 0 → NoneRuns d → d.closed ≡ false → Move d k Close Done (desk d.limit true (map shut d.requests))

-- the request that `least` finds
least_at : (p : Request → Bool) (i : ℕ) (rs : List Request) (n : ℕ) → position_from p i rs ≡ Some n → (k : ℕ) × (n ≡ i + k) × ((q : Request) × (slice_get rs k ≡ Some q) × (p q ≡ true))
least_at p i [] n e = absurd cc
least_at p i (x ∷ rs) n e = elim (p x) as (λ b. p x ≡ b → cond b (Some i) (position_from p (i + 1) rs) ≡ Some n → (k : ℕ) × (n ≡ i + k) × ((q : Request) × (slice_get (x ∷ rs) k ≡ Some q) × (p q ≡ true))) [
  | true ↦ λ is e. (0, (let h : i ≡ n = cc in let g : n ≡ i + 0 = omega arith in g), (x, refl, is))
  | false ↦ λ is e. let h = least_at p (i + 1) rs n e in (suc h.0, (let a : n ≡ i + 1 + h.0 = h.1 in let g : n ≡ i + suc h.0 = omega arith in g), h.2)
] refl e

pub least_is : (p : Request → Bool) (rs : List Request) (n : ℕ) → least p rs ≡ Some n → (q : Request) × (slice_get rs n ≡ Some q) × (p q ≡ true)
least_is p rs n e = let h = least_at p 0 rs n e in let same : h.0 ≡ n = (let a : n ≡ 0 + h.0 = h.1 in omega arith) in (h.2.0, ap (slice_get rs) (sym same) ∙ h.2.1, h.2.2)

-- the replies of a call to the target, where its request is known
pub started : (rs : List Request) (r : ℕ) (q : Request) → slice_get rs r ≡ Some q → start_of rs r ≡ Start r q.step q.words
started rs r q at = ap (λ (o : Option Request). elim o [ None ↦ Empty | Some q ↦ Start r q.step q.words ]) at

submit_moves : (d : Desk) (k : ℕ) (step : StepId) (words : List ℕ) → (submitted d k step words).0 ≢ d → Move d k (Submit step words) (submitted d k step words).1 (submitted d k step words).0
submit_moves d k step words changes =
    let new : Desk × Reply = (desk d.limit d.closed (d.requests ++ new_request k step words ∷ []), Ticket (length d.requests)) in
    let R : Desk × Reply → Type 0 = λ x. x.0 ≢ d → Move d k (Submit step words) x.1 x.0 in
    elim d.closed as (λ b. d.closed ≡ b → R (cond b (d, Closed) (cond (nat_le d.limit (length d.requests)) (d, Full) new))) [
      | true ↦ λ is c. absurd (c refl)
      | false ↦ λ is. elim (nat_le d.limit (length d.requests)) as (λ b. nat_le d.limit (length d.requests) ≡ b → R (cond b (d, Full) new)) [
        | true ↦ λ full c. absurd (c refl)
        | false ↦ λ room c. Submits step words is (leb-false d.limit (length d.requests) room)
      ] refl
    ] refl changes

stop_moves : (d : Desk) (k : ℕ) → k ≡ 0 → (stopped d).0 ≢ d → Move d k Next (stopped d).1 (stopped d).0
stop_moves d k target changes =
    let x : Option ℕ → Desk × Reply = λ o. elim o [ None ↦ (d, Empty) | Some r ↦ (with_state d r Stopping, Stop r) ] in
    elim (least is_canceling d.requests) as (λ o. least is_canceling d.requests ≡ o → (x o).0 ≢ d → Move d k Next (x o).1 (x o).0) [
      | None ↦ λ is c. absurd (c refl)
      | Some r ↦ λ is c. let h = least_is is_canceling d.requests r is in Sets Next (Stop r) r h.0 Stopping h.1 (Stops target h.2)
    ] refl changes

next_moves : (d : Desk) (k : ℕ) → k ≡ 0 → (nexted d).0 ≢ d → Move d k Next (nexted d).1 (nexted d).0
next_moves d k target changes =
    let x : Option ℕ → Desk × Reply = λ o. elim o [ None ↦ stopped d | Some r ↦ (with_state d r Executing, start_of d.requests r) ] in
    elim (least is_queued d.requests) as (λ o. least is_queued d.requests ≡ o → (x o).0 ≢ d → Move d k Next (x o).1 (x o).0) [
      | None ↦ λ is c. stop_moves d k target c
      | Some r ↦ λ is c. let h = least_is is_queued d.requests r is in
          subst (λ (y : Reply). Move d k Next y (with_state d r Executing)) (sym (started d.requests r h.0 h.1)) (Sets Next (Start r h.0.step h.0.words) r h.0 Executing h.1 (Starts target h.2))
    ] refl changes

cancel_moves : (d : Desk) (k r : ℕ) → IsOwn d k r → (cancelled d r).0 ≢ d → Move d k (Cancel r) (cancelled d r).1 (cancelled d r).0
cancel_moves d k r own changes = let q = own.0 in
    let R : Desk × Reply → Type 0 = λ x. x.0 ≢ d → Move d k (Cancel r) x.1 x.0 in
    let same : cancelled_at d r q.state ≡ cancelled d r = sym (ap (λ (o : Option Request). elim o as (λ _. Desk × Reply) [ None ↦ (d, TooLate) | Some q ↦ cancelled_at d r q.state ]) own.1) in
    let go : R (cancelled_at d r q.state) = elim q.state as (λ st. q.state ≡ st → R (cancelled_at d r st)) [
      | Queued ↦ λ is c. Sets (Cancel r) Withdrawn r q Spent own.1 (Withdraws own.2 (ap queued_state is))
      | Executing ↦ λ is c. Sets (Cancel r) Asked r q Canceling own.1 (Asks own.2 is)
      | Canceling ↦ λ is c. absurd (c refl)
      | Stopping ↦ λ is c. absurd (c refl)
      | DoneState o ↦ λ is c. absurd (c refl)
      | Spent ↦ λ is c. absurd (c refl)
    ] refl in
    subst R same go changes

collect_moves : (d : Desk) (k r : ℕ) → IsOwn d k r → (collected d r).0 ≢ d → Move d k (Collect r) (collected d r).1 (collected d r).0
collect_moves d k r own changes = let q = own.0 in
    let R : Desk × Reply → Type 0 = λ x. x.0 ≢ d → Move d k (Collect r) x.1 x.0 in
    let same : collected_at d r q.state ≡ collected d r = sym (ap (λ (o : Option Request). elim o as (λ _. Desk × Reply) [ None ↦ (d, NotYet) | Some q ↦ collected_at d r q.state ]) own.1) in
    let go : R (collected_at d r q.state) = elim q.state as (λ st. q.state ≡ st → R (collected_at d r st)) [
      | Queued ↦ λ is c. absurd (c refl)
      | Executing ↦ λ is c. absurd (c refl)
      | Canceling ↦ λ is c. absurd (c refl)
      | Stopping ↦ λ is c. absurd (c refl)
      | DoneState o ↦ λ is c. Sets (Collect r) (Ended o) r q Spent own.1 (Collects o own.2 is)
      | Spent ↦ λ is c. absurd (c refl)
    ] refl in
    subst R same go changes

close_moves : (d : Desk) (k : ℕ) → k ≡ 0 → NoneRuns d → (closes d).0 ≢ d → Move d k Close (closes d).1 (closes d).0
close_moves d k target none changes =
    let new : Desk × Reply = (desk d.limit true (map shut d.requests), Done) in
    let R : Desk × Reply → Type 0 = λ x. x.0 ≢ d → Move d k Close x.1 x.0 in
    elim d.closed as (λ b. d.closed ≡ b → R (cond b (d, Done) new)) [
      | true ↦ λ is c. absurd (c refl)
      | false ↦ λ is c. Closes target none is
    ] refl changes

-- every call that may be made and changes the board makes a move
pub moves : (d : Desk) (k : ℕ) (call : Call) → MayAct d k call → (act d k call).0 ≢ d → Move d k call (act d k call).1 (act d k call).0
moves d k (Submit step words) may changes = submit_moves d k step words changes
moves d k Next may changes = next_moves d k may changes
moves d k (Finish r o) may changes = let q = may.1.0 in Sets (Finish r o) Done r q (DoneState o) may.1.1 (Finishes o may.0 may.1.2)
moves d k (Cancel r) may changes = cancel_moves d k r may changes
moves d k (Collect r) may changes = collect_moves d k r may changes
moves d k Close may changes = close_moves d k may.0 may.1 changes
