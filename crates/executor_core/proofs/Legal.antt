-- The laws of legal histories.
use Rattle.std.proofs.Common.{◌≡◌, ℕ, suc, ◌+◌, ◌-◌, ◌*◌, ◌≤◌, ◌≢◌, Bool, true, false, cond, List, [], ◌∷◌, ◌++◌, length, refl, ap, ◌∙◌, subst, sym, arith, le_refl, eq-eqb, ne_eqb, Option, Some, None, ◌==◌}
use mathlib.Core.Logic.{dite}
use native.Mathlib.Decide.{ℕ_discrete}
use Rattle.std.specs.Prelude.{slice_get}
use Rattle.executor_core.specs.declared.request.Request.{Request}
use Rattle.executor_core.specs.declared.entry.Entry.{Entry}
use Rattle.executor_core.specs.declared.call.Reply.{Reply}
use Rattle.executor_core.specs.Acts.{Desk, act, queued_state, running_state, ended_state}
use Rattle.executor_core.specs.Histories.{after, LegalFrom, fresh, Legal, board_of, times, of_caller, is_any_submit, is_any_start, is_any_finish, is_close, is_submit, is_start, is_finish, submits, starts, finishes, there, over, ends_by, ends_from, starts_in, ends_in, Settled}
use Rattle.executor_core.proofs.Moves.{Move, moves}
use Rattle.executor_core.proofs.Steps.{unstarted, start_step, end_step, works, work_step, there_step, count_step, closed_step, by_target, any_by_target, Shut, shut_step}
use Rattle.executor_core.proofs.Weights.{left_on, left_step}
use Rattle.std.specs.List.{filter}
use Rattle.std.proofs.lemmas.List.Elements.{filter-append}

-- a beginning of a legal history is legal, and so is what follows it, from the board that it leaves
pub legal_prefix : (d : Desk) (es fs : List Entry) → LegalFrom d (es ++ fs) → LegalFrom d es × LegalFrom (after d es) fs
legal_prefix d [] fs l = (tt, l)
legal_prefix d (e ∷ es) fs l = let h = legal_prefix (act d e.caller e.call).0 es fs l.3 in ((l.0, l.1, l.2, h.0), h.1)

pub after_append : (d : Desk) (es fs : List Entry) → after d (es ++ fs) ≡ after (after d es) fs
after_append d [] fs = refl
after_append d (e ∷ es) fs = after_append (act d e.caller e.call).0 es fs

pub legal_append : (d : Desk) (es fs : List Entry) → LegalFrom d es → LegalFrom (after d es) fs → LegalFrom d (es ++ fs)
legal_append d [] fs l m = m
legal_append d (e ∷ es) fs l m = (l.0, l.1, l.2, legal_append (act d e.caller e.call).0 es fs l.3 m)

abbrev pub next_desk : Desk → Entry → Desk
next_desk d e = (act d e.caller e.call).0

pub move_of : (d : Desk) (e : Entry) (es : List Entry) → LegalFrom d (e ∷ es) → Move d e.caller e.call e.reply (next_desk d e)
move_of d e es l = subst (λ (y : Reply). Move d e.caller e.call y (next_desk d e)) l.1 (moves d e.caller e.call l.0 l.2)

-- a request starts at most once
starts_once : (d : Desk) (es : List Entry) → LegalFrom d es → (n : ℕ) → times (is_start n) es + unstarted (slice_get (after d es).requests n) ≤ unstarted (slice_get d.requests n)
starts_once d [] l n = let x : ℕ = unstarted (slice_get d.requests n) in let g : 0 + x ≤ x = omega arith in g
starts_once d (e ∷ es) l n = let h = starts_once (next_desk d e) es l.3 n in let s = start_step d e.caller e.call e.reply (next_desk d e) (move_of d e es l) n in
    let a : ℕ = cond (starts n e.reply) 1 0 in let b : ℕ = times (is_start n) es in let x : ℕ = unstarted (slice_get (after (next_desk d e) es).requests n) in let y : ℕ = unstarted (slice_get (next_desk d e).requests n) in let z : ℕ = unstarted (slice_get d.requests n) in
    let h' : b + x ≤ y = h in let s' : a + y ≤ z = s in let g : a + b + x ≤ z = omega arith in g

bit : (b : Bool) → cond b 1 0 ≤ 1
bit true = le_refl 1
bit false = omega arith

unstarted_one : (o : Option Request) → unstarted o ≤ 1
unstarted_one None = le_refl 1
unstarted_one (Some q) = bit (queued_state q.state)

over_one : (o : Option Request) → over o ≤ 1
over_one None = omega arith
over_one (Some q) = bit (ended_state q.state)

-- a request ends as often as it has ended
pub ends_as_over : (d : Desk) (es : List Entry) → LegalFrom d es → (n : ℕ) → over (slice_get d.requests n) + ends_from d n es ≡ over (slice_get (after d es).requests n)
ends_as_over d [] l n = let x : ℕ = over (slice_get d.requests n) in let g : x + 0 ≡ x = omega arith in g
ends_as_over d (e ∷ es) l n = let h = ends_as_over (next_desk d e) es l.3 n in let s = end_step d e.caller e.call e.reply (next_desk d e) (move_of d e es l) n in
    let a : ℕ = ends_by d n e.call e.reply in let b : ℕ = ends_from (next_desk d e) n es in let x : ℕ = over (slice_get (after (next_desk d e) es).requests n) in let y : ℕ = over (slice_get (next_desk d e).requests n) in let z : ℕ = over (slice_get d.requests n) in
    let h' : y + b ≡ x = h in let s' : z + a ≡ y = s in let g : z + (a + b) ≡ x = omega arith in g

-- the target works on a request from its start to its finish
pub works_between : (d : Desk) (es : List Entry) → LegalFrom d es → (n : ℕ) → works (slice_get d.requests n) + times (is_start n) es ≡ works (slice_get (after d es).requests n) + times (is_finish n) es
works_between d [] l n = refl
works_between d (e ∷ es) l n = let h = works_between (next_desk d e) es l.3 n in let s = work_step d e.caller e.call e.reply (next_desk d e) (move_of d e es l) n in
    let a : ℕ = cond (starts n e.reply) 1 0 in let b : ℕ = times (is_start n) es in let f : ℕ = cond (finishes n e.call) 1 0 in let g : ℕ = times (is_finish n) es in
    let x : ℕ = works (slice_get (after (next_desk d e) es).requests n) in let y : ℕ = works (slice_get (next_desk d e).requests n) in let z : ℕ = works (slice_get d.requests n) in
    let h' : y + b ≡ x + g = h in let s' : z + a ≡ y + f = s in let r : z + (a + b) ≡ x + (f + g) = omega arith in r

-- a history takes the room that was left
room_taken : (d : Desk) (es : List Entry) → LegalFrom d es → length es + left_on (after d es) ≤ left_on d
room_taken d [] l = let x : ℕ = left_on d in let g : 0 + x ≤ x = omega arith in g
room_taken d (e ∷ es) l = let h = room_taken (next_desk d e) es l.3 in let s = left_step d e.caller e.call e.reply (next_desk d e) (move_of d e es l) in
    let x : ℕ = left_on (after (next_desk d e) es) in let y : ℕ = left_on (next_desk d e) in let z : ℕ = left_on d in let n : ℕ = length es in
    let h' : n + x ≤ y = h in let s' : y + 1 ≤ z = s in let g : n + 1 + x ≤ z = omega arith in (let k : suc n ≡ n + 1 = omega arith in omega arith)

-- six entries for each request, and one more
pub short : (limit : ℕ) (es : List Entry) → Legal limit es → length es ≤ 6 * limit + 1
short limit es l = let h = room_taken (fresh limit) es l in let x : ℕ = left_on (after (fresh limit) es) in let n : ℕ = length es in let h' : n + x ≤ 6 * (limit - 0) + 0 + 1 = h in omega arith

-- a request starts at most once
pub one_start : (limit : ℕ) (es : List Entry) → Legal limit es → (n : ℕ) → starts_in es n ≤ 1
one_start limit es l n = let h = starts_once (fresh limit) es l n in let a : ℕ = times (is_start n) es in let x : ℕ = unstarted (slice_get (board_of limit es).requests n) in let h' : a + x ≤ 1 = h in let g : a ≤ 1 = omega arith in g

-- a request ends at most once
pub one_end : (limit : ℕ) (es : List Entry) → Legal limit es → (n : ℕ) → ends_in limit es n ≤ 1
one_end limit es l n = let h = ends_as_over (fresh limit) es l n in let o = over_one (slice_get (board_of limit es).requests n) in
    let a : ℕ = ends_in limit es n in let x : ℕ = over (slice_get (board_of limit es).requests n) in let h' : 0 + a ≡ x = h in let o' : x ≤ 1 = o in let g : a ≤ 1 = omega arith in g

shut_from : (d : Desk) (es : List Entry) → LegalFrom d es → Shut d → Shut (after d es)
shut_from d [] l s = s
shut_from d (e ∷ es) l s = shut_from (next_desk d e) es l.3 (shut_step d e.caller e.call e.reply (next_desk d e) (move_of d e es l) s)

-- in a closed executor's history each request has ended, has started at most once and has exactly one end
pub closed_settled : (limit : ℕ) (es : List Entry) → Legal limit es → (board_of limit es).closed ≡ true → Settled limit es
closed_settled limit es l closed r q at = let h = ends_as_over (fresh limit) es l r in let e : ended_state q.state ≡ true = shut_from (fresh limit) es l (λ z n x w. absurd cc) closed r q at in
    let o : over (slice_get (board_of limit es).requests r) ≡ 1 = ap over at ∙ ap (λ (b : Bool). cond b 1 0) e in let a : ℕ = ends_in limit es r in let x : ℕ = over (slice_get (board_of limit es).requests r) in let h' : 0 + a ≡ x = h in let o' : x ≡ 1 = o in
    (e, one_start limit es l r, (let g : a ≡ 1 = omega arith in g))

-- entries of one caller
pub mine_here : (c : ℕ) (e : Entry) (es : List Entry) → e.caller ≡ c → of_caller c (e ∷ es) ≡ e ∷ of_caller c es
mine_here c e es is = subst (λ (b : Bool). cond b (e ∷ of_caller c es) (of_caller c es) ≡ e ∷ of_caller c es) (sym (eq-eqb e.caller c is)) refl

pub mine_else : (c : ℕ) (e : Entry) (es : List Entry) → e.caller ≢ c → of_caller c (e ∷ es) ≡ of_caller c es
mine_else c e es ne = subst (λ (b : Bool). cond b (e ∷ of_caller c es) (of_caller c es) ≡ of_caller c es) (sym (ne_eqb e.caller c ne)) refl

-- where only the caller's entries pass, they are all that pass
same_times : (p : Entry → Bool) (c : ℕ) (d : Desk) (es : List Entry) → LegalFrom d es → ((d : Desk) (e : Entry) (es : List Entry) → LegalFrom d (e ∷ es) → e.caller ≢ c → p e ≡ false) → times p (of_caller c es) ≡ times p es
same_times p c d [] l only = refl
same_times p c d (e ∷ es) l only = let h = same_times p c (next_desk d e) es l.3 only in dite (ℕ_discrete e.caller c)
    (λ is. ap (times p) (mine_here c e es is) ∙ ap (λ (n : ℕ). cond (p e) 1 0 + n) h)
    (λ ne. ap (times p) (mine_else c e es ne) ∙ h ∙ (let f = only d e es l ne in let a : ℕ = times p es in let z : a ≡ 0 + a = omega arith in z ∙ ap (λ (b : Bool). cond b 1 0 + times p es) (sym f)))

pub starts_of_target : (d : Desk) (es : List Entry) → LegalFrom d es → (n : ℕ) → times (is_start n) (of_caller 0 es) ≡ times (is_start n) es
starts_of_target d es l n = same_times (is_start n) 0 d es l (λ d e es m ne. (by_target d e.caller e.call e.reply (next_desk d e) (move_of d e es m) n ne).0)

pub finishes_of_target : (d : Desk) (es : List Entry) → LegalFrom d es → (n : ℕ) → times (is_finish n) (of_caller 0 es) ≡ times (is_finish n) es
finishes_of_target d es l n = same_times (is_finish n) 0 d es l (λ d e es m ne. (by_target d e.caller e.call e.reply (next_desk d e) (move_of d e es m) n ne).1)

-- of what passes only by the caller's entries, the caller's entries are all, in their order
pub same_passed : (p : Entry → Bool) (c : ℕ) (d : Desk) (es : List Entry) → LegalFrom d es → ((d : Desk) (e : Entry) (es : List Entry) → LegalFrom d (e ∷ es) → e.caller ≢ c → p e ≡ false) → filter p (of_caller c es) ≡ filter p es
same_passed p c d [] l only = refl
same_passed p c d (e ∷ es) l only = let h = same_passed p c (next_desk d e) es l.3 only in dite (ℕ_discrete e.caller c)
    (λ is. ap (filter p) (mine_here c e es is) ∙ ap (λ (xs : List Entry). cond (p e) (e ∷ xs) xs) h)
    (λ ne. ap (filter p) (mine_else c e es ne) ∙ h ∙ ap (λ (b : Bool). cond b (e ∷ filter p es) (filter p es)) (sym (only d e es l ne)))

pub all_starts_of_target : (limit : ℕ) (es : List Entry) → Legal limit es → filter is_any_start (of_caller 0 es) ≡ filter is_any_start es
all_starts_of_target limit es l = same_passed is_any_start 0 (fresh limit) es l (λ d e es m ne. (any_by_target d e.caller e.call e.reply (next_desk d e) (move_of d e es m) ne).0)

pub all_finishes_of_target : (limit : ℕ) (es : List Entry) → Legal limit es → filter is_any_finish (of_caller 0 es) ≡ filter is_any_finish es
all_finishes_of_target limit es l = same_passed is_any_finish 0 (fresh limit) es l (λ d e es m ne. (any_by_target d e.caller e.call e.reply (next_desk d e) (move_of d e es m) ne).1)

there_from : (d : Desk) (es : List Entry) → LegalFrom d es → (n : ℕ) → there (slice_get d.requests n) + times (is_submit n) es ≡ there (slice_get (after d es).requests n)
there_from d [] l n = let x : ℕ = there (slice_get d.requests n) in let g : x + 0 ≡ x = omega arith in g
there_from d (e ∷ es) l n = let h = there_from (next_desk d e) es l.3 n in let s = there_step d e.caller e.call e.reply (next_desk d e) (move_of d e es l) n in
    let a : ℕ = cond (submits n e.reply) 1 0 in let b : ℕ = times (is_submit n) es in let x : ℕ = there (slice_get (after (next_desk d e) es).requests n) in let y : ℕ = there (slice_get (next_desk d e).requests n) in let z : ℕ = there (slice_get d.requests n) in
    let h' : y + b ≡ x = h in let s' : z + a ≡ y = s in let g : z + (a + b) ≡ x = omega arith in g

-- a request is on the board where it was submitted, which is once
pub there_where_submitted : (limit : ℕ) (es : List Entry) → Legal limit es → (n : ℕ) → times (is_submit n) es ≡ there (slice_get (board_of limit es).requests n)
there_where_submitted limit es l n = let h = there_from (fresh limit) es l n in let a : ℕ = times (is_submit n) es in let x : ℕ = there (slice_get (board_of limit es).requests n) in let h' : 0 + a ≡ x = h in let g : a ≡ x = omega arith in g

count_from : (d : Desk) (es : List Entry) → LegalFrom d es → length d.requests + times is_any_submit es ≡ length (after d es).requests
count_from d [] l = let x : ℕ = length d.requests in let g : x + 0 ≡ x = omega arith in g
count_from d (e ∷ es) l = let h = count_from (next_desk d e) es l.3 in let s = count_step d e.caller e.call e.reply (next_desk d e) (move_of d e es l) in
    let a : ℕ = cond (is_any_submit e) 1 0 in let b : ℕ = times is_any_submit es in let x : ℕ = length (after (next_desk d e) es).requests in let y : ℕ = length (next_desk d e).requests in let z : ℕ = length d.requests in
    let h' : y + b ≡ x = h in let s' : z + a ≡ y = s in let g : z + (a + b) ≡ x = omega arith in g

-- there are as many requests as submissions
pub requests_count : (limit : ℕ) (es : List Entry) → Legal limit es → times is_any_submit es ≡ length (board_of limit es).requests
requests_count limit es l = let h = count_from (fresh limit) es l in let a : ℕ = times is_any_submit es in let x : ℕ = length (board_of limit es).requests in let h' : 0 + a ≡ x = h in let g : a ≡ x = omega arith in g

pub closed_from : (d : Desk) (es : List Entry) → LegalFrom d es → cond {A = ℕ} d.closed 1 0 + times is_close es ≡ cond (after d es).closed 1 0
closed_from d [] l = let x : ℕ = cond d.closed 1 0 in let g : x + 0 ≡ x = omega arith in g
closed_from d (e ∷ es) l = let h = closed_from (next_desk d e) es l.3 in let s = closed_step d e.caller e.call e.reply (next_desk d e) (move_of d e es l) in
    let a : ℕ = cond (is_close e) 1 0 in let b : ℕ = times is_close es in let x : ℕ = cond (after (next_desk d e) es).closed 1 0 in let y : ℕ = cond (next_desk d e).closed 1 0 in let z : ℕ = cond d.closed 1 0 in
    let h' : y + b ≡ x = h in let s' : z + a ≡ y = s in let g : z + (a + b) ≡ x = omega arith in g

-- the executor is closed where a closing stands, which is once
pub closed_where_close : (limit : ℕ) (es : List Entry) → Legal limit es → times is_close es ≡ cond (board_of limit es).closed 1 0
closed_where_close limit es l = let h = closed_from (fresh limit) es l in let a : ℕ = times is_close es in let x : ℕ = cond (board_of limit es).closed 1 0 in let h' : 0 + a ≡ x = h in let g : a ≡ x = omega arith in g

pub few_times : (p : Entry → Bool) (c : ℕ) (es : List Entry) → times p (of_caller c es) ≤ times p es
few_times p c [] = le_refl 0
few_times p c (e ∷ es) = let h = few_times p c es in let a : ℕ = cond (p e) 1 0 in let x : ℕ = times p (of_caller c es) in let y : ℕ = times p es in let h' : x ≤ y = h in dite (ℕ_discrete e.caller c)
    (λ is. let q = ap (times p) (mine_here c e es is) in let z : ℕ = times p (of_caller c (e ∷ es)) in let q' : z ≡ a + x = q in let g : z ≤ a + y = omega arith in g)
    (λ ne. let q = ap (times p) (mine_else c e es ne) in let z : ℕ = times p (of_caller c (e ∷ es)) in let q' : z ≡ x = q in let g : z ≤ a + y = omega arith in g)

pub times_append : (p : Entry → Bool) (es fs : List Entry) → times p (es ++ fs) ≡ times p es + times p fs
times_append p [] fs = let x : ℕ = times p fs in let g : x ≡ 0 + x = omega arith in g
times_append p (e ∷ es) fs = let h = times_append p es fs in let a : ℕ = cond (p e) 1 0 in let x : ℕ = times p (es ++ fs) in let y : ℕ = times p es in let z : ℕ = times p fs in let h' : x ≡ y + z = h in let g : a + x ≡ a + y + z = omega arith in g

-- a request that isn't on the board was submitted by nobody
pub never_submitted : (limit : ℕ) (es : List Entry) → Legal limit es → (c n : ℕ) → slice_get (board_of limit es).requests n ≡ None → times (is_submit n) (of_caller c es) ≡ 0
never_submitted limit es l c n none = let h = there_where_submitted limit es l n in let f = few_times (is_submit n) c es in
    let a : ℕ = times (is_submit n) es in let b : ℕ = times (is_submit n) (of_caller c es) in let x : ℕ = there (slice_get (board_of limit es).requests n) in
    let h' : a ≡ x = h in let f' : b ≤ a = f in let z : x ≡ 0 = ap there none in let g : b ≡ 0 = omega arith in g

-- a request that wasn't submitted, or that waits for its start, was not started
pub never_started : (limit : ℕ) (es : List Entry) → Legal limit es → (n : ℕ) → unstarted (slice_get (board_of limit es).requests n) ≡ 1 → starts_in es n ≡ 0
never_started limit es l n w = let s = starts_once (fresh limit) es l n in
    let a : ℕ = times (is_start n) es in let u : ℕ = unstarted (slice_get (board_of limit es).requests n) in let s' : a + u ≤ 1 = s in let w' : u ≡ 1 = w in let g : a ≡ 0 = omega arith in g

-- a request that runs was started once
pub started_once : (limit : ℕ) (es : List Entry) → Legal limit es → (n : ℕ) (q : Request) → slice_get (board_of limit es).requests n ≡ Some q → running_state q.state ≡ true → starts_in es n ≡ 1
started_once limit es l n q at w = let h = works_between (fresh limit) es l n in let o = one_start limit es l n in
    let a : ℕ = times (is_start n) es in let b : ℕ = times (is_finish n) es in let x : ℕ = works (slice_get (board_of limit es).requests n) in
    let h' : 0 + a ≡ x + b = h in let o' : a ≤ 1 = o in let w' : x ≡ 1 = ap works at ∙ ap (λ (b : Bool). cond b 1 0) w in let g : a ≡ 1 = omega arith in g

pub mine_last : (c : ℕ) (es : List Entry) (e : Entry) → e.caller ≡ c → of_caller c (es ++ e ∷ []) ≡ of_caller c es ++ e ∷ []
mine_last c es e is = filter-append (λ (x : Entry). x.caller == c) es (e ∷ []) ∙ ap (λ (l : List Entry). of_caller c es ++ l) (mine_here c e [] is)

-- one entry more
pub one_more : (p : Entry → Bool) (mine : List Entry) (e : Entry) → times p (mine ++ e ∷ []) ≡ times p mine + cond (p e) 1 0
one_more p mine e = times_append p mine (e ∷ []) ∙ (let a : ℕ = times p mine in let x : ℕ = cond (p e) 1 0 in let g : a + (x + 0) ≡ a + x = omega arith in g)

-- an entry that doesn't start the request
pub starts_same : (es : List Entry) (e : Entry) (n : ℕ) → is_start n e ≡ false → starts_in (es ++ e ∷ []) n ≡ starts_in es n
starts_same es e n none = one_more (is_start n) es e ∙ (let a : ℕ = times (is_start n) es in let x : ℕ = cond (is_start n e) 1 0 in let z : x ≡ 0 = ap (λ (b : Bool). cond b 1 0) none in let g : a + x ≡ a = omega arith in g)
