-- A history is at most six times as long as its board has room for requests, and one entry longer.
use Rattle.std.proofs.Common.{◌≡◌, ℕ, ◌+◌, ◌-◌, ◌*◌, ◌<◌, ◌≤◌, Bool, true, false, cond, List, [], ◌∷◌, ◌++◌, map, length, set, refl, ap, subst, sym, arith, le_refl, length-append, length-set, Option, Some, None}
use Rattle.std.specs.Prelude.{slice_set}
use Rattle.std.proofs.lemmas.List.{length-map}
use Rattle.executor_core.specs.declared.request.State.{State}
use Rattle.executor_core.specs.declared.request.State.TheVariants.{Queued, Executing, Canceling, Stopping, Done as DoneState, Spent}
use Rattle.executor_core.specs.declared.request.Request.{Request}
use Rattle.executor_core.specs.declared.call.Call.{Call}
use Rattle.executor_core.specs.declared.call.Reply.{Reply}
use Rattle.executor_core.specs.Acts.{Desk, is_queued, queued_state, canceling_state, running_state, set_state, new_request, shut, disconnected}
use Rattle.executor_core.specs.Asks.{total}
use Rattle.executor_core.proofs.Asking.{total_set, total_snoc, total_closes}
use Rattle.executor_core.proofs.Moves.{Shift, Starts, Stops, Finishes, Withdraws, Asks, Collects, Move, Submits, Sets, Closes}

-- how many entries may still follow for a request
abbrev pub left : State → ℕ
left Queued = 5
left Executing = 4
left Canceling = 3
left Stopping = 2
left (DoneState o) = 1
left Spent = 0

abbrev pub left_of_all : List Request → ℕ
left_of_all rs = total left rs

-- how many entries may still follow
abbrev pub left_on : Desk → ℕ
left_on d = 6 * (d.limit - length d.requests) + left_of_all d.requests + cond d.closed 0 1

left_queued : (st : State) → queued_state st ≡ true → left st ≡ 5
left_queued Queued e = refl
left_queued Executing e = absurd cc
left_queued Canceling e = absurd cc
left_queued Stopping e = absurd cc
left_queued (DoneState o) e = absurd cc
left_queued Spent e = absurd cc

left_canceling : (st : State) → canceling_state st ≡ true → left st ≡ 3
left_canceling Queued e = absurd cc
left_canceling Executing e = absurd cc
left_canceling Canceling e = refl
left_canceling Stopping e = absurd cc
left_canceling (DoneState o) e = absurd cc
left_canceling Spent e = absurd cc

left_running : (st : State) → running_state st ≡ true → 2 ≤ left st
left_running Queued e = absurd cc
left_running Executing e = omega arith
left_running Canceling e = omega arith
left_running Stopping e = omega arith
left_running (DoneState o) e = absurd cc
left_running Spent e = absurd cc

left_shift : (k r : ℕ) (q : Request) (call : Call) (reply : Reply) (st : State) → Shift k r q call reply st → left st + 1 ≤ left q.state
left_shift k r q _ _ _ (Starts t w) = let h = left_queued q.state w in omega arith
left_shift k r q _ _ _ (Stops t w) = let h = left_canceling q.state w in omega arith
left_shift k r q _ _ _ (Finishes o t w) = let h = left_running q.state w in omega arith
left_shift k r q _ _ _ (Withdraws t w) = let h = left_queued q.state w in omega arith
left_shift k r q _ _ _ (Asks t w) = let h : left q.state ≡ 4 = ap left w in omega arith
left_shift k r q _ _ _ (Collects o t w) = let h : left q.state ≡ 1 = ap left w in omega arith

left_shut : (q : Request) → left (shut q).state ≤ left q.state
left_shut q = elim (is_queued q) as (λ b. is_queued q ≡ b → left (cond b (record q { state = DoneState disconnected }) q).state ≤ left q.state) [
  | true ↦ λ e. let h = left_queued q.state e in omega arith
  | false ↦ λ e. le_refl _
] refl

pub left_step : (d : Desk) (k : ℕ) (call : Call) (reply : Reply) (d' : Desk) → Move d k call reply d' → left_on d' + 1 ≤ left_on d
left_step d k _ _ _ (Submits step words opened room) = let x : Request = new_request k step words in let h = total_snoc left d.requests x in let l = length-append d.requests (x ∷ []) in
    let a : ℕ = left_of_all (d.requests ++ x ∷ []) in let b : ℕ = left_of_all d.requests in let c : ℕ = cond d.closed 0 1 in let n : ℕ = length d.requests in let m : ℕ = length (d.requests ++ x ∷ []) in
    let h' : a ≡ b + 5 = h in let l' : m ≡ n + 1 = l in let room' : n < d.limit = room in let g : 6 * (d.limit - m) + a + c + 1 ≤ 6 * (d.limit - n) + b + c = omega arith in g
left_step d k call reply _ (Sets _ _ r q st at shift) = let x : Request = record q { state = st } in
    let is : set_state d.requests r st ≡ set d.requests r x = ap (λ (o : Option Request). elim o as (λ _. List Request) [ None ↦ d.requests | Some q ↦ slice_set d.requests r (record q { state = st }) ]) at in
    let h = total_set left d.requests r q x at in let l = length-set d.requests r x in let f = left_shift k r q call reply st shift in
    let a : ℕ = left_of_all (set d.requests r x) in let b : ℕ = left_of_all d.requests in let c : ℕ = cond d.closed 0 1 in let n : ℕ = length d.requests in let m : ℕ = length (set d.requests r x) in
    let y : ℕ = left q.state in let z : ℕ = left st in let h' : a + y ≡ b + z = h in let l' : m ≡ n = l in let f' : z + 1 ≤ y = f in
    subst (λ (rs : List Request). 6 * (d.limit - length rs) + left_of_all rs + c + 1 ≤ 6 * (d.limit - n) + b + c) (sym is) (let g : 6 * (d.limit - m) + a + c + 1 ≤ 6 * (d.limit - n) + b + c = omega arith in g)
left_step d k _ _ _ (Closes target none opened) = let h = total_closes left left_shut d.requests in let l = length-map d.requests shut in
    let a : ℕ = left_of_all (map shut d.requests) in let b : ℕ = left_of_all d.requests in let n : ℕ = length d.requests in let m : ℕ = length (map shut d.requests) in
    let h' : a ≤ b = h in let l' : m ≡ n = l in let o : cond d.closed 0 1 ≡ 1 = ap (λ (b : Bool). cond b 0 1) opened in let c : ℕ = cond d.closed 0 1 in let o' : c ≡ 1 = o in
    let g : 6 * (d.limit - m) + a + 0 + 1 ≤ 6 * (d.limit - n) + b + c = omega arith in g
