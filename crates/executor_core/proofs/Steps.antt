-- What one move does to one request, and to the room that is left.
use Rattle.std.proofs.Common.{◌≡◌, ℕ, zero, suc, ◌+◌, ◌≤◌, ◌≢◌, ◌⊎◌, ◌==◌, Bool, true, false, cond, List, [], ◌∷◌, ◌++◌, map, length, length-append, length-set, set, refl, ap, ◌∙◌, subst, sym, arith, inl, inr, ⊎_elim, le_refl, eq-eqb, ne_eqb, Option, Some, None}
use mathlib.Core.Logic.{dite}
use native.Mathlib.Decide.{ℕ_discrete}
use Rattle.std.specs.Prelude.{slice_get, slice_set}
use Rattle.std.specs.Option.{option_map}
use Rattle.std.proofs.lemmas.Bool.{eqb-true}
use Rattle.std.proofs.lemmas.List.{length-map}
use Rattle.std.proofs.lemmas.Option.{slice_get-map}
use Rattle.executor_core.specs.declared.request.State.{State}
use Rattle.executor_core.specs.declared.request.State.TheVariants.{Queued, Executing, Canceling, Stopping, Done as DoneState, Spent}
use Rattle.executor_core.specs.declared.request.Request.{Request}
use Rattle.executor_core.specs.declared.call.Call.{Call}
use Rattle.executor_core.specs.declared.call.Reply.{Reply}
use Rattle.executor_core.specs.Acts.{Desk, IsOwn, is_queued, queued_state, canceling_state, running_state, spent_state, ended_state, set_state, new_request, shut, disconnected}
use Rattle.executor_core.specs.Histories.{submits, starts, finishes, spends, waits, there, over, ends_by, gives_ticket, gives_start, asks_finish, asks_close}
use Rattle.executor_core.proofs.Moves.{Shift, Starts, Stops, Finishes, Withdraws, Asks, Collects, Move, Submits, Sets, Closes}

module _ {A : Type 0} where
  pub get_here : (xs : List A) (i : ℕ) (a x : A) → slice_get xs i ≡ Some a → slice_get (set xs i x) i ≡ Some x
  get_here [] i a x e = absurd cc
  get_here (y ∷ ys) zero a x e = refl
  get_here (y ∷ ys) (suc i) a x e = get_here ys i a x e

  pub get_else : (xs : List A) (i k : ℕ) (x : A) → k ≢ i → slice_get (set xs i x) k ≡ slice_get xs k
  get_else [] i k x ne = refl
  get_else (y ∷ ys) zero zero x ne = absurd (ne refl)
  get_else (y ∷ ys) zero (suc k) x ne = refl
  get_else (y ∷ ys) (suc i) zero x ne = refl
  get_else (y ∷ ys) (suc i) (suc k) x ne = get_else ys i k x (λ e. ne (ap suc e))

  -- a list with one element more is the same but at its end
  pub get_snoc : (xs : List A) (a : A) (k : ℕ) → ((k ≡ length xs) × (slice_get xs k ≡ None) × (slice_get (xs ++ a ∷ []) k ≡ Some a)) ⊎ (slice_get (xs ++ a ∷ []) k ≡ slice_get xs k)
  get_snoc [] a zero = inl (refl, refl, refl)
  get_snoc [] a (suc k) = inr refl
  get_snoc (x ∷ xs) a zero = inr refl
  get_snoc (x ∷ xs) a (suc k) = ⊎_elim (λ h. inl (ap suc h.0, h.1, h.2)) (λ h. inr h) (get_snoc xs a k)

  pub past : (xs : List A) (a : A) (k : ℕ) → k ≡ length xs → slice_get (xs ++ a ∷ []) k ≡ slice_get xs k → ⊥
  past [] a zero e h = cc
  past [] a (suc k) e h = omega arith
  past (x ∷ xs) a zero e h = omega arith
  past (x ∷ xs) a (suc k) e h = past xs a k (omega arith) h

-- the request that goes to another state, and each other one
pub at_state : (rs : List Request) (r : ℕ) (q : Request) (st : State) → slice_get rs r ≡ Some q → (k : ℕ)
    → ((k ≡ r) × (slice_get rs k ≡ Some q) × (slice_get (set_state rs r st) k ≡ Some (record q { state = st }))) ⊎ ((k ≢ r) × (slice_get (set_state rs r st) k ≡ slice_get rs k))
at_state rs r q st at k = let is : set_state rs r st ≡ set rs r (record q { state = st }) = ap (λ (o : Option Request). elim o as (λ _. List Request) [ None ↦ rs | Some q ↦ slice_set rs r (record q { state = st }) ]) at in
    dite (ℕ_discrete k r)
    (λ e. inl (e, ap (slice_get rs) e ∙ at, ap (λ (l : List Request). slice_get l k) is ∙ ap (slice_get (set rs r (record q { state = st }))) e ∙ get_here rs r q (record q { state = st }) at))
    (λ ne. inr (ne, ap (λ (l : List Request). slice_get l k) is ∙ get_else rs r k (record q { state = st }) ne))

same_true : (a b : ℕ) → b ≡ a → (a == b) ≡ true
same_true a b e = eq-eqb a b (sym e)

other_false : (a b : ℕ) → b ≢ a → (a == b) ≡ false
other_false a b ne = ne_eqb a b (λ e. ne (sym e))

-- states of different kinds
queued_not_ended : (st : State) → queued_state st ≡ true → ended_state st ≡ false
queued_not_ended Queued e = refl
queued_not_ended Executing e = refl
queued_not_ended Canceling e = refl
queued_not_ended Stopping e = refl
queued_not_ended (DoneState o) e = absurd cc
queued_not_ended Spent e = absurd cc

queued_not_running : (st : State) → queued_state st ≡ true → running_state st ≡ false
queued_not_running Queued e = refl
queued_not_running Executing e = absurd cc
queued_not_running Canceling e = absurd cc
queued_not_running Stopping e = absurd cc
queued_not_running (DoneState o) e = refl
queued_not_running Spent e = refl

pub canceling_runs : (st : State) → canceling_state st ≡ true → running_state st ≡ true
canceling_runs Queued e = absurd cc
canceling_runs Executing e = refl
canceling_runs Canceling e = refl
canceling_runs Stopping e = refl
canceling_runs (DoneState o) e = absurd cc
canceling_runs Spent e = absurd cc

running_not_ended : (st : State) → running_state st ≡ true → ended_state st ≡ false
running_not_ended Queued e = refl
running_not_ended Executing e = refl
running_not_ended Canceling e = refl
running_not_ended Stopping e = refl
running_not_ended (DoneState o) e = absurd cc
running_not_ended Spent e = absurd cc

-- a request that no target runs ends by the closing, or has ended
shut_ends : (st : State) → running_state st ≡ false → queued_state st ≡ false → ended_state st ≡ true
shut_ends Queued r e = absurd cc
shut_ends Executing r e = absurd cc
shut_ends Canceling r e = absurd cc
shut_ends Stopping r e = absurd cc
shut_ends (DoneState o) r e = refl
shut_ends Spent r e = refl

-- 1 where the request can still start

abbrev pub unstarted : Option Request → ℕ
unstarted None = 1
unstarted (Some q) = cond (queued_state q.state) 1 0

start_shift : (k r : ℕ) (q : Request) (call : Call) (reply : Reply) (st : State) (n : ℕ) → Shift k r q call reply st → n ≡ r → cond (starts n reply) 1 0 + unstarted (Some (record q { state = st })) ≤ unstarted (Some q)
start_shift k r q _ _ _ n (Starts t w) is = rw (same_true r n is, w) (omega arith)
start_shift k r q _ _ _ n (Stops t w) is = omega arith
start_shift k r q _ _ _ n (Finishes o t w) is = omega arith
start_shift k r q _ _ _ n (Withdraws t w) is = omega arith
start_shift k r q _ _ _ n (Asks t w) is = omega arith
start_shift k r q _ _ _ n (Collects o t w) is = omega arith

start_else : (k r : ℕ) (q : Request) (call : Call) (reply : Reply) (st : State) (n : ℕ) → Shift k r q call reply st → n ≢ r → starts n reply ≡ false
start_else k r q _ _ _ n (Starts t w) ne = other_false r n ne
start_else k r q _ _ _ n (Stops t w) ne = refl
start_else k r q _ _ _ n (Finishes o t w) ne = refl
start_else k r q _ _ _ n (Withdraws t w) ne = refl
start_else k r q _ _ _ n (Asks t w) ne = refl
start_else k r q _ _ _ n (Collects o t w) ne = refl

unstarted_shut : (o : Option Request) → unstarted (option_map shut o) ≤ unstarted o
unstarted_shut None = le_refl 1
unstarted_shut (Some q) = elim (is_queued q) as (λ b. is_queued q ≡ b → unstarted (Some (cond b (record q { state = DoneState disconnected }) q)) ≤ unstarted (Some q)) [ true ↦ λ e. omega arith | false ↦ λ e. le_refl _ ] refl

-- a start is the last that the request has
pub start_step : (d : Desk) (k : ℕ) (call : Call) (reply : Reply) (d' : Desk) → Move d k call reply d' → (n : ℕ) → cond (starts n reply) 1 0 + unstarted (slice_get d'.requests n) ≤ unstarted (slice_get d.requests n)
start_step d k _ _ _ (Submits step words opened room) n = ⊎_elim (λ h. rw (h.1, h.2) (omega arith)) (λ h. rw h (omega arith)) (get_snoc d.requests (new_request k step words) n)
start_step d k call reply _ (Sets _ _ r q st at shift) n =
    ⊎_elim (λ h. rw (h.1, h.2) (start_shift k r q call reply st n shift h.0)) (λ h. rw (h.1, start_else k r q call reply st n shift h.0) (omega arith)) (at_state d.requests r q st at n)
start_step d k _ _ _ (Closes target none opened) n = rw (slice_get-map shut d.requests n) (let h = unstarted_shut (slice_get d.requests n) in omega arith)

over_shift : (d : Desk) (k r : ℕ) (q : Request) (call : Call) (reply : Reply) (st : State) (n : ℕ) → Shift k r q call reply st → n ≡ r → over (Some q) + ends_by d n call reply ≡ over (Some (record q { state = st }))
over_shift d k r q _ _ _ n (Starts t w) is = rw (queued_not_ended q.state w) refl
over_shift d k r q _ _ _ n (Stops t w) is = rw (running_not_ended q.state (canceling_runs q.state w)) refl
over_shift d k r q _ _ _ n (Finishes o t w) is = rw (running_not_ended q.state w, same_true r n is) refl
over_shift d k r q _ _ _ n (Withdraws t w) is = rw (queued_not_ended q.state w, same_true r n is) refl
over_shift d k r q _ _ _ n (Asks t w) is = rw w refl
over_shift d k r q _ _ _ n (Collects o t w) is = rw w refl

over_else : (d : Desk) (k r : ℕ) (q : Request) (call : Call) (reply : Reply) (st : State) (n : ℕ) → Shift k r q call reply st → n ≢ r → ends_by d n call reply ≡ 0
over_else d k r q _ _ _ n (Starts t w) ne = refl
over_else d k r q _ _ _ n (Stops t w) ne = refl
over_else d k r q _ _ _ n (Finishes o t w) ne = rw (other_false r n ne) refl
over_else d k r q _ _ _ n (Withdraws t w) ne = rw (other_false r n ne) refl
over_else d k r q _ _ _ n (Asks t w) ne = refl
over_else d k r q _ _ _ n (Collects o t w) ne = refl

over_shut : (o : Option Request) → over o + waits o ≡ over (option_map shut o)
over_shut None = refl
over_shut (Some q) = elim (is_queued q) as (λ b. is_queued q ≡ b → cond (ended_state q.state) 1 0 + cond b 1 0 ≡ over (Some (cond b (record q { state = DoneState disconnected }) q))) [
  | true ↦ λ e. rw (queued_not_ended q.state e) refl
  | false ↦ λ e. let x : ℕ = cond (ended_state q.state) 1 0 in let g : x + 0 ≡ x = omega arith in g
] refl

-- a request has ended after the step where it had ended before or ends by it
pub end_step : (d : Desk) (k : ℕ) (call : Call) (reply : Reply) (d' : Desk) → Move d k call reply d' → (n : ℕ) → over (slice_get d.requests n) + ends_by d n call reply ≡ over (slice_get d'.requests n)
end_step d k _ _ _ (Submits step words opened room) n = ⊎_elim (λ h. rw (h.1, h.2) refl) (λ h. rw h (let x : ℕ = over (slice_get d.requests n) in let g : x + 0 ≡ x = omega arith in g)) (get_snoc d.requests (new_request k step words) n)
end_step d k call reply _ (Sets _ _ r q st at shift) n =
    ⊎_elim (λ h. rw (h.1, h.2) (over_shift d k r q call reply st n shift h.0))
    (λ h. rw (h.1, over_else d k r q call reply st n shift h.0) (let x : ℕ = over (slice_get d.requests n) in let g : x + 0 ≡ x = omega arith in g)) (at_state d.requests r q st at n)
end_step d k _ _ _ (Closes target none opened) n = over_shut (slice_get d.requests n) ∙ ap over (sym (slice_get-map shut d.requests n))

-- 1 where the target works on the request
abbrev pub works : Option Request → ℕ
works None = 0
works (Some q) = cond (running_state q.state) 1 0

works_shift : (k r : ℕ) (q : Request) (call : Call) (reply : Reply) (st : State) (n : ℕ) → Shift k r q call reply st → n ≡ r
    → works (Some q) + cond (starts n reply) 1 0 ≡ works (Some (record q { state = st })) + cond (finishes n call) 1 0
works_shift k r q _ _ _ n (Starts t w) is = rw (queued_not_running q.state w, same_true r n is) refl
works_shift k r q _ _ _ n (Stops t w) is = rw (canceling_runs q.state w) refl
works_shift k r q _ _ _ n (Finishes o t w) is = rw (w, same_true r n is) refl
works_shift k r q _ _ _ n (Withdraws t w) is = rw (queued_not_running q.state w) refl
works_shift k r q _ _ _ n (Asks t w) is = rw w refl
works_shift k r q _ _ _ n (Collects o t w) is = rw w refl

finish_else : (k r : ℕ) (q : Request) (call : Call) (reply : Reply) (st : State) (n : ℕ) → Shift k r q call reply st → n ≢ r → finishes n call ≡ false
finish_else k r q _ _ _ n (Starts t w) ne = refl
finish_else k r q _ _ _ n (Stops t w) ne = refl
finish_else k r q _ _ _ n (Finishes o t w) ne = other_false r n ne
finish_else k r q _ _ _ n (Withdraws t w) ne = refl
finish_else k r q _ _ _ n (Asks t w) ne = refl
finish_else k r q _ _ _ n (Collects o t w) ne = refl

works_shut : (rs : List Request) (n : ℕ) → ((r : ℕ) (q : Request) → slice_get rs r ≡ Some q → running_state q.state ≡ false) → works (slice_get rs n) ≡ works (option_map shut (slice_get rs n))
works_shut rs n none = elim (slice_get rs n) as (λ o. slice_get rs n ≡ o → works o ≡ works (option_map shut o)) [
  | None ↦ λ e. refl
  | Some q ↦ λ e. elim (is_queued q) as (λ b. cond (running_state q.state) 1 0 ≡ works (Some (cond b (record q { state = DoneState disconnected }) q))) [ true ↦ rw (none n q e) refl | false ↦ refl ]
] refl

-- the target works on a request from its start to its finish
pub work_step : (d : Desk) (k : ℕ) (call : Call) (reply : Reply) (d' : Desk) → Move d k call reply d' → (n : ℕ)
    → works (slice_get d.requests n) + cond (starts n reply) 1 0 ≡ works (slice_get d'.requests n) + cond (finishes n call) 1 0
work_step d k _ _ _ (Submits step words opened room) n = ⊎_elim (λ h. rw (h.1, h.2) refl) (λ h. rw h refl) (get_snoc d.requests (new_request k step words) n)
work_step d k call reply _ (Sets _ _ r q st at shift) n =
    ⊎_elim (λ h. rw (h.1, h.2) (works_shift k r q call reply st n shift h.0))
    (λ h. rw (h.1, start_else k r q call reply st n shift h.0, finish_else k r q call reply st n shift h.0) refl) (at_state d.requests r q st at n)
work_step d k _ _ _ (Closes target none opened) n = ap (λ (x : ℕ). x + 0) (works_shut d.requests n none ∙ ap works (sym (slice_get-map shut d.requests n)))

-- 1 where the request is there and is spent
abbrev pub gone : Option Request → ℕ
gone None = 0
gone (Some q) = cond (spent_state q.state) 1 0

queued_not_spent : (st : State) → queued_state st ≡ true → spent_state st ≡ false
queued_not_spent Queued e = refl
queued_not_spent Executing e = refl
queued_not_spent Canceling e = refl
queued_not_spent Stopping e = refl
queued_not_spent (DoneState o) e = refl
queued_not_spent Spent e = absurd cc

running_not_spent : (st : State) → running_state st ≡ true → spent_state st ≡ false
running_not_spent Queued e = refl
running_not_spent Executing e = refl
running_not_spent Canceling e = refl
running_not_spent Stopping e = refl
running_not_spent (DoneState o) e = refl
running_not_spent Spent e = absurd cc

gone_shift : (k r : ℕ) (q : Request) (call : Call) (reply : Reply) (st : State) (n : ℕ) → Shift k r q call reply st → n ≡ r → gone (Some q) + cond (spends n call reply) 1 0 ≡ gone (Some (record q { state = st }))
gone_shift k r q _ _ _ n (Starts t w) is = rw (queued_not_spent q.state w) refl
gone_shift k r q _ _ _ n (Stops t w) is = rw (running_not_spent q.state (canceling_runs q.state w)) refl
gone_shift k r q _ _ _ n (Finishes o t w) is = rw (running_not_spent q.state w) refl
gone_shift k r q _ _ _ n (Withdraws t w) is = rw (queued_not_spent q.state w, same_true r n is) refl
gone_shift k r q _ _ _ n (Asks t w) is = rw w refl
gone_shift k r q _ _ _ n (Collects o t w) is = rw (w, same_true r n is) refl

spend_else : (k r : ℕ) (q : Request) (call : Call) (reply : Reply) (st : State) (n : ℕ) → Shift k r q call reply st → n ≢ r → spends n call reply ≡ false
spend_else k r q _ _ _ n (Starts t w) ne = refl
spend_else k r q _ _ _ n (Stops t w) ne = refl
spend_else k r q _ _ _ n (Finishes o t w) ne = refl
spend_else k r q _ _ _ n (Withdraws t w) ne = other_false r n ne
spend_else k r q _ _ _ n (Asks t w) ne = refl
spend_else k r q _ _ _ n (Collects o t w) ne = other_false r n ne

gone_shut : (o : Option Request) → gone o ≡ gone (option_map shut o)
gone_shut None = refl
gone_shut (Some q) = elim (is_queued q) as (λ b. is_queued q ≡ b → cond (spent_state q.state) 1 0 ≡ gone (Some (cond b (record q { state = DoneState disconnected }) q))) [ true ↦ λ e. rw (queued_not_spent q.state e) refl | false ↦ λ e. refl ] refl

-- a request is spent after the step where it was before or is by it
pub gone_step : (d : Desk) (k : ℕ) (call : Call) (reply : Reply) (d' : Desk) → Move d k call reply d' → (n : ℕ) → gone (slice_get d.requests n) + cond (spends n call reply) 1 0 ≡ gone (slice_get d'.requests n)
gone_step d k _ _ _ (Submits step words opened room) n = ⊎_elim (λ h. rw (h.1, h.2) refl) (λ h. rw h (let x : ℕ = gone (slice_get d.requests n) in let g : x + 0 ≡ x = omega arith in g)) (get_snoc d.requests (new_request k step words) n)
gone_step d k call reply _ (Sets _ _ r q st at shift) n =
    ⊎_elim (λ h. rw (h.1, h.2) (gone_shift k r q call reply st n shift h.0))
    (λ h. rw (h.1, spend_else k r q call reply st n shift h.0) (let x : ℕ = gone (slice_get d.requests n) in let g : x + 0 ≡ x = omega arith in g)) (at_state d.requests r q st at n)
gone_step d k _ _ _ (Closes target none opened) n = let x : ℕ = gone (slice_get d.requests n) in let z : x + 0 ≡ x = omega arith in z ∙ gone_shut (slice_get d.requests n) ∙ ap gone (sym (slice_get-map shut d.requests n))

not_both_shift : (k r : ℕ) (q : Request) (call : Call) (reply : Reply) (st : State) (n : ℕ) → Shift k r q call reply st → finishes n call ≡ true → starts n reply ≡ false
not_both_shift k r q _ _ _ n (Starts t w) e = absurd cc
not_both_shift k r q _ _ _ n (Stops t w) e = refl
not_both_shift k r q _ _ _ n (Finishes o t w) e = refl
not_both_shift k r q _ _ _ n (Withdraws t w) e = refl
not_both_shift k r q _ _ _ n (Asks t w) e = refl
not_both_shift k r q _ _ _ n (Collects o t w) e = refl

-- no call starts a request and finishes one
pub not_both : (d : Desk) (k : ℕ) (call : Call) (reply : Reply) (d' : Desk) → Move d k call reply d' → (n : ℕ) → finishes n call ≡ true → starts n reply ≡ false
not_both d k _ _ _ (Submits step words opened room) n e = refl
not_both d k call reply _ (Sets _ _ r q st at shift) n e = not_both_shift k r q call reply st n shift e
not_both d k _ _ _ (Closes target none opened) n e = refl

submits_none : (k r : ℕ) (q : Request) (call : Call) (reply : Reply) (st : State) (n : ℕ) → Shift k r q call reply st → submits n reply ≡ false
submits_none k r q _ _ _ n (Starts t w) = refl
submits_none k r q _ _ _ n (Stops t w) = refl
submits_none k r q _ _ _ n (Finishes o t w) = refl
submits_none k r q _ _ _ n (Withdraws t w) = refl
submits_none k r q _ _ _ n (Asks t w) = refl
submits_none k r q _ _ _ n (Collects o t w) = refl

there_shut : (o : Option Request) → there o ≡ there (option_map shut o)
there_shut None = refl
there_shut (Some q) = refl

-- a request is on the board after the step where it was before or is submitted by it
pub there_step : (d : Desk) (k : ℕ) (call : Call) (reply : Reply) (d' : Desk) → Move d k call reply d' → (n : ℕ) → there (slice_get d.requests n) + cond (submits n reply) 1 0 ≡ there (slice_get d'.requests n)
there_step d k _ _ _ (Submits step words opened room) n = dite (ℕ_discrete n (length d.requests))
    (λ is. ⊎_elim (λ h. rw (h.1, h.2, same_true (length d.requests) n is) refl) (λ h. absurd (past d.requests (new_request k step words) n is h)) (get_snoc d.requests (new_request k step words) n))
    (λ ne. let x : ℕ = there (slice_get d.requests n) in let z : x + 0 ≡ x = omega arith in ⊎_elim (λ h. absurd (ne h.0)) (λ h. ap (λ (b : Bool). there (slice_get d.requests n) + cond b 1 0) (other_false (length d.requests) n ne) ∙ z ∙ ap there (sym h)) (get_snoc d.requests (new_request k step words) n))
there_step d k call reply _ (Sets _ _ r q st at shift) n =
    ⊎_elim (λ h. rw (h.1, h.2, submits_none k r q call reply st n shift) refl)
    (λ h. rw (h.1, submits_none k r q call reply st n shift) (let x : ℕ = there (slice_get d.requests n) in let g : x + 0 ≡ x = omega arith in g)) (at_state d.requests r q st at n)
there_step d k _ _ _ (Closes target none opened) n = let x : ℕ = there (slice_get d.requests n) in let z : x + 0 ≡ x = omega arith in z ∙ there_shut (slice_get d.requests n) ∙ ap there (sym (slice_get-map shut d.requests n))

kept_shift : (k r : ℕ) (q : Request) (call : Call) (reply : Reply) (st : State) → Shift k r q call reply st → (gives_ticket reply ≡ false) × (asks_close call ≡ false)
kept_shift k r q _ _ _ (Starts t w) = (refl, refl)
kept_shift k r q _ _ _ (Stops t w) = (refl, refl)
kept_shift k r q _ _ _ (Finishes o t w) = (refl, refl)
kept_shift k r q _ _ _ (Withdraws t w) = (refl, refl)
kept_shift k r q _ _ _ (Asks t w) = (refl, refl)
kept_shift k r q _ _ _ (Collects o t w) = (refl, refl)

pub set_length : (rs : List Request) (r : ℕ) (q : Request) (st : State) → slice_get rs r ≡ Some q → length (set_state rs r st) ≡ length rs
set_length rs r q st at = ap (λ (o : Option Request). length (elim o as (λ _. List Request) [ None ↦ rs | Some q ↦ slice_set rs r (record q { state = st }) ])) at ∙ length-set rs r (record q { state = st })

-- each submission adds a request
pub count_step : (d : Desk) (k : ℕ) (call : Call) (reply : Reply) (d' : Desk) → Move d k call reply d' → length d.requests + cond (gives_ticket reply) 1 0 ≡ length d'.requests
count_step d k _ _ _ (Submits step words opened room) = sym (length-append d.requests (new_request k step words ∷ []))
count_step d k call reply _ (Sets _ _ r q st at shift) = let n : ℕ = length d.requests in let z : n + 0 ≡ n = omega arith in ap (λ (b : Bool). length d.requests + cond b 1 0) (kept_shift k r q call reply st shift).0 ∙ z ∙ sym (set_length d.requests r q st at)
count_step d k _ _ _ (Closes target none opened) = let n : ℕ = length d.requests in let z : n + 0 ≡ n = omega arith in z ∙ sym (length-map d.requests shut)

-- the board is closed after the step where it was before or is by it
pub closed_step : (d : Desk) (k : ℕ) (call : Call) (reply : Reply) (d' : Desk) → Move d k call reply d' → cond {A = ℕ} d.closed 1 0 + cond (asks_close call) 1 0 ≡ cond d'.closed 1 0
closed_step d k _ _ _ (Submits step words opened room) = let x : ℕ = cond d.closed 1 0 in let g : x + 0 ≡ x = omega arith in g
closed_step d k call reply _ (Sets _ _ r q st at shift) = let x : ℕ = cond d.closed 1 0 in let z : x + 0 ≡ x = omega arith in ap (λ (b : Bool). cond {A = ℕ} d.closed 1 0 + cond b 1 0) (kept_shift k r q call reply st shift).1 ∙ z
closed_step d k _ _ _ (Closes target none opened) = ap (λ (b : Bool). cond {A = ℕ} b 1 0 + 1) opened

by_target_shift : (k r : ℕ) (q : Request) (call : Call) (reply : Reply) (st : State) (n : ℕ) → Shift k r q call reply st → k ≢ 0 → (starts n reply ≡ false) × (finishes n call ≡ false)
by_target_shift k r q _ _ _ n (Starts t w) ne = absurd (ne t)
by_target_shift k r q _ _ _ n (Stops t w) ne = absurd (ne t)
by_target_shift k r q _ _ _ n (Finishes o t w) ne = absurd (ne t)
by_target_shift k r q _ _ _ n (Withdraws t w) ne = (refl, refl)
by_target_shift k r q _ _ _ n (Asks t w) ne = (refl, refl)
by_target_shift k r q _ _ _ n (Collects o t w) ne = (refl, refl)

-- only the target starts and finishes
pub by_target : (d : Desk) (k : ℕ) (call : Call) (reply : Reply) (d' : Desk) → Move d k call reply d' → (n : ℕ) → k ≢ 0 → (starts n reply ≡ false) × (finishes n call ≡ false)
by_target d k _ _ _ (Submits step words opened room) n ne = (refl, refl)
by_target d k call reply _ (Sets _ _ r q st at shift) n ne = by_target_shift k r q call reply st n shift ne
by_target d k _ _ _ (Closes target none opened) n ne = absurd (ne target)

any_by_target_shift : (k r : ℕ) (q : Request) (call : Call) (reply : Reply) (st : State) → Shift k r q call reply st → k ≢ 0 → (gives_start reply ≡ false) × (asks_finish call ≡ false)
any_by_target_shift k r q _ _ _ (Starts t w) ne = absurd (ne t)
any_by_target_shift k r q _ _ _ (Stops t w) ne = absurd (ne t)
any_by_target_shift k r q _ _ _ (Finishes o t w) ne = absurd (ne t)
any_by_target_shift k r q _ _ _ (Withdraws t w) ne = (refl, refl)
any_by_target_shift k r q _ _ _ (Asks t w) ne = (refl, refl)
any_by_target_shift k r q _ _ _ (Collects o t w) ne = (refl, refl)

pub any_by_target : (d : Desk) (k : ℕ) (call : Call) (reply : Reply) (d' : Desk) → Move d k call reply d' → k ≢ 0 → (gives_start reply ≡ false) × (asks_finish call ≡ false)
any_by_target d k _ _ _ (Submits step words opened room) ne = (refl, refl)
any_by_target d k call reply _ (Sets _ _ r q st at shift) ne = any_by_target_shift k r q call reply st shift ne
any_by_target d k _ _ _ (Closes target none opened) ne = absurd (ne target)

-- where the board is closed, each request has ended
abbrev pub Shut : Desk → Type 0
Shut d = d.closed ≡ true → (n : ℕ) (q : Request) → slice_get d.requests n ≡ Some q → ended_state q.state ≡ true

shut_shift : (k r : ℕ) (q : Request) (call : Call) (reply : Reply) (st : State) → Shift k r q call reply st → ended_state q.state ≡ true → ended_state st ≡ true
shut_shift k r q _ _ _ (Starts t w) e = let f = queued_not_ended q.state w in absurd cc
shut_shift k r q _ _ _ (Stops t w) e = let f = running_not_ended q.state (canceling_runs q.state w) in absurd cc
shut_shift k r q _ _ _ (Finishes o t w) e = refl
shut_shift k r q _ _ _ (Withdraws t w) e = refl
shut_shift k r q _ _ _ (Asks t w) e = let f : ended_state q.state ≡ false = ap ended_state w in absurd cc
shut_shift k r q _ _ _ (Collects o t w) e = refl

shut_one : (q x : Request) → running_state q.state ≡ false → shut q ≡ x → ended_state x.state ≡ true
shut_one q x none is = subst (λ (y : Request). ended_state y.state ≡ true) is (elim (is_queued q) as (λ b. is_queued q ≡ b → ended_state (cond b (record q { state = DoneState disconnected }) q).state ≡ true) [
  | true ↦ λ e. refl
  | false ↦ λ e. shut_ends q.state none e
] refl)

pub shut_step : (d : Desk) (k : ℕ) (call : Call) (reply : Reply) (d' : Desk) → Move d k call reply d' → Shut d → Shut d'
shut_step d k _ _ _ (Submits step words opened room) was closed n x e = absurd cc
shut_step d k call reply _ (Sets _ _ r q st at shift) was closed n x e = ⊎_elim
    (λ h. let same : record q { state = st } ≡ x = let g = h.2 in cc in subst (λ (y : Request). ended_state y.state ≡ true) same (shut_shift k r q call reply st shift (was closed r q at)))
    (λ h. was closed n x (sym h.1 ∙ e)) (at_state d.requests r q st at n)
shut_step d k _ _ _ (Closes target none opened) was closed n x e =
    elim (slice_get d.requests n) as (λ o. slice_get d.requests n ≡ o → option_map shut o ≡ Some x → ended_state x.state ≡ true) [
      | None ↦ λ is e. absurd cc
      | Some q ↦ λ is e. shut_one q x (none n q is) (let g : shut q ≡ x = cc in g)
    ] refl (sym (slice_get-map shut d.requests n) ∙ e)

own_shift : (k c r : ℕ) (q : Request) (call : Call) (reply : Reply) (st : State) → Shift k r q call reply st → q.caller ≡ c → spent_state q.state ≡ false → (k ≡ c → spends r call reply ≡ false) → spent_state st ≡ false
own_shift k c r q _ _ _ (Starts t w) by not_spent no_spend = refl
own_shift k c r q _ _ _ (Stops t w) by not_spent no_spend = refl
own_shift k c r q _ _ _ (Finishes o t w) by not_spent no_spend = refl
own_shift k c r q _ _ _ (Withdraws t w) by not_spent no_spend = let f = no_spend (sym t ∙ by) in let g = same_true r r refl in absurd cc
own_shift k c r q _ _ _ (Asks t w) by not_spent no_spend = refl
own_shift k c r q _ _ _ (Collects o t w) by not_spent no_spend = let f = no_spend (sym t ∙ by) in let g = same_true r r refl in absurd cc

-- a request stays its submitter's until its submitter withdraws or collects it
pub own_step : (d : Desk) (k : ℕ) (call : Call) (reply : Reply) (d' : Desk) → Move d k call reply d' → (c n : ℕ) → IsOwn d c n → (k ≡ c → spends n call reply ≡ false) → IsOwn d' c n
own_step d k _ _ _ (Submits step words opened room) c n own no_spend = ⊎_elim (λ h. let g = own.1 in let e = h.1 in absurd cc) (λ h. (own.0, h ∙ own.1, own.2, own.3)) (get_snoc d.requests (new_request k step words) n)
own_step d k call reply _ (Sets _ _ r q st at shift) c n own no_spend = ⊎_elim
    (λ h. let same : own.0 ≡ q = let g = own.1 in let e = h.1 in cc in
    (record q { state = st }, h.2, ap (λ (x : Request). x.caller) (sym same) ∙ own.2, own_shift k c r q call reply st shift (ap (λ (x : Request). x.caller) (sym same) ∙ own.2) (ap (λ (x : Request). spent_state x.state) (sym same) ∙ own.3) (λ e. ap (λ (m : ℕ). spends m call reply) (sym h.0) ∙ no_spend e)))
    (λ h. (own.0, h.1 ∙ own.1, own.2, own.3)) (at_state d.requests r q st at n)
own_step d k _ _ _ (Closes target none opened) c n own no_spend = let q = own.0 in let at : slice_get (map shut d.requests) n ≡ Some (shut q) = slice_get-map shut d.requests n ∙ ap (option_map shut) own.1 in
    (shut q, at, (elim (is_queued q) as (λ b. (cond b (record q { state = DoneState disconnected }) q).caller ≡ c) [ true ↦ own.2 | false ↦ own.2 ]), (elim (is_queued q) as (λ b. spent_state (cond b (record q { state = DoneState disconnected }) q).state ≡ false) [ true ↦ refl | false ↦ own.3 ]))

submit_else : (k r : ℕ) (q : Request) (call : Call) (reply : Reply) (st : State) (n : ℕ) → Shift k r q call reply st → submits n reply ≡ true → ⊥
submit_else k r q _ _ _ n (Starts t w) e = cc
submit_else k r q _ _ _ n (Stops t w) e = cc
submit_else k r q _ _ _ n (Finishes o t w) e = cc
submit_else k r q _ _ _ n (Withdraws t w) e = cc
submit_else k r q _ _ _ n (Asks t w) e = cc
submit_else k r q _ _ _ n (Collects o t w) e = cc

-- what is submitted is its submitter's
pub submit_step : (d : Desk) (k : ℕ) (call : Call) (reply : Reply) (d' : Desk) → Move d k call reply d' → (n : ℕ) → submits n reply ≡ true → IsOwn d' k n
submit_step d k _ _ _ (Submits step words opened room) n is = let e : length d.requests ≡ n = eqb-true (length d.requests) n is in ⊎_elim (λ h. (new_request k step words, h.2, refl, refl)) (λ h. absurd (past d.requests (new_request k step words) n (sym e) h)) (get_snoc d.requests (new_request k step words) n)
submit_step d k call reply _ (Sets _ _ r q st at shift) n is = absurd (submit_else k r q call reply st n shift is)
submit_step d k _ _ _ (Closes target none opened) n is = absurd cc
