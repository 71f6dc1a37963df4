-- What a caller's own entries tell of a legal history.
use Rattle.std.proofs.Common.{◌≡◌, ℕ, ◌+◌, ◌≤◌, ◌||◌, ◌==◌, Bool, true, false, cond, List, [], ◌∷◌, ◌++◌, refl, ap, ◌∙◌, subst, sym, arith, le_refl, eq-eqb, ne_eqb, Option, Some, None}
use mathlib.Core.Logic.{dite}
use native.Mathlib.Decide.{ℕ_discrete}
use Rattle.std.specs.Prelude.{slice_get}
use Rattle.executor_core.specs.declared.request.Request.{Request}
use Rattle.executor_core.specs.declared.entry.Entry.{Entry}
use Rattle.executor_core.specs.declared.call.Call.{Call}
use Rattle.executor_core.specs.declared.call.Call.TheVariants.{Submit, Next, Finish, Cancel, Collect, Close}
use Rattle.executor_core.specs.declared.call.Reply.{Reply}
use Rattle.executor_core.specs.declared.call.Reply.TheVariants.{Closed, Full, Ticket, Start, Stop, Empty, Done, Withdrawn, Asked, TooLate, Ended, NotYet}
use Rattle.executor_core.specs.Acts.{Desk, IsOwn, IsRunning, NoneRuns, running_state}
use Rattle.executor_core.specs.Histories.{after, LegalFrom, fresh, Legal, board_of, times, of_caller, starts, finishes, submits, spends, is_submit, is_start, is_finish, is_spend, is_among, without, with_submitted, without_spent, with_started, without_finished, outstanding_from, unfinished_from, outstanding, unfinished, Outstanding, Unfinished, AllFinished}
use Rattle.executor_core.proofs.Steps.{works, work_step, not_both, by_target, own_step, submit_step}
use Rattle.executor_core.proofs.Legal.{next_desk, move_of, mine_here, mine_else, mine_last}

among_snoc : (n m : ℕ) (rs : List ℕ) → is_among n (rs ++ m ∷ []) ≡ cond (m == n) true (is_among n rs)
among_snoc n m [] = elim (m == n) as (λ b. b || false ≡ cond b true false) [ true ↦ refl | false ↦ refl ]
among_snoc n m (r ∷ rs) = ap (λ (b : Bool). (r == n) || b) (among_snoc n m rs)
    ∙ elim (r == n) as (λ a. a || cond (m == n) true (is_among n rs) ≡ cond (m == n) true (a || is_among n rs)) [
      | true ↦ elim (m == n) as (λ b. true ≡ cond b true true) [ true ↦ refl | false ↦ refl ]
      | false ↦ refl
    ]

among_without : (n m : ℕ) (rs : List ℕ) → is_among n (without m rs) ≡ cond (m == n) false (is_among n rs)
among_without n m [] = elim (m == n) as (λ b. false ≡ cond b false false) [ true ↦ refl | false ↦ refl ]
among_without n m (r ∷ rs) = let h = among_without n m rs in dite (ℕ_discrete r m)
    (λ is. dite (ℕ_discrete m n)
    (λ mn. rw (eq-eqb r m is) (h ∙ rw (eq-eqb m n mn) refl))
    (λ mn. rw (eq-eqb r m is) (h ∙ rw (ne_eqb m n mn, ne_eqb r n (λ e. mn (sym is ∙ e))) refl)))
    (λ no. dite (ℕ_discrete m n)
    (λ mn. rw (ne_eqb r m no, ne_eqb r n (λ e. no (e ∙ sym mn))) (h ∙ rw (eq-eqb m n mn) refl))
    (λ mn. rw (ne_eqb r m no) (ap (λ (b : Bool). (r == n) || b) h ∙ rw (ne_eqb m n mn) refl)))

-- what one entry adds and takes away
submitted_among : (n : ℕ) (rs : List ℕ) (reply : Reply) → is_among n (with_submitted rs reply) ≡ cond (submits n reply) true (is_among n rs)
submitted_among n rs Closed = refl
submitted_among n rs Full = refl
submitted_among n rs (Ticket k) = among_snoc n k rs
submitted_among n rs (Start k step words) = refl
submitted_among n rs (Stop k) = refl
submitted_among n rs Empty = refl
submitted_among n rs Done = refl
submitted_among n rs Withdrawn = refl
submitted_among n rs Asked = refl
submitted_among n rs TooLate = refl
submitted_among n rs (Ended o) = refl
submitted_among n rs NotYet = refl

started_among : (n : ℕ) (rs : List ℕ) (reply : Reply) → is_among n (with_started rs reply) ≡ cond (starts n reply) true (is_among n rs)
started_among n rs Closed = refl
started_among n rs Full = refl
started_among n rs (Ticket k) = refl
started_among n rs (Start k step words) = among_snoc n k rs
started_among n rs (Stop k) = refl
started_among n rs Empty = refl
started_among n rs Done = refl
started_among n rs Withdrawn = refl
started_among n rs Asked = refl
started_among n rs TooLate = refl
started_among n rs (Ended o) = refl
started_among n rs NotYet = refl

finished_among : (n : ℕ) (rs : List ℕ) (call : Call) → is_among n (without_finished rs call) ≡ cond (finishes n call) false (is_among n rs)
finished_among n rs (Submit step words) = refl
finished_among n rs Next = refl
finished_among n rs (Finish m o) = among_without n m rs
finished_among n rs (Cancel m) = refl
finished_among n rs (Collect m) = refl
finished_among n rs Close = refl

spent_among : (n : ℕ) (rs : List ℕ) (call : Call) (reply : Reply) → is_among n (without_spent rs call reply) ≡ cond (spends n call reply) false (is_among n rs)
spent_among n rs (Submit step words) reply = refl
spent_among n rs Next reply = refl
spent_among n rs (Finish m o) reply = refl
spent_among n rs Close reply = refl
spent_among n rs (Cancel m) Closed = refl
spent_among n rs (Cancel m) Full = refl
spent_among n rs (Cancel m) (Ticket k) = refl
spent_among n rs (Cancel m) (Start k step words) = refl
spent_among n rs (Cancel m) (Stop k) = refl
spent_among n rs (Cancel m) Empty = refl
spent_among n rs (Cancel m) Done = refl
spent_among n rs (Cancel m) Withdrawn = among_without n m rs
spent_among n rs (Cancel m) Asked = refl
spent_among n rs (Cancel m) TooLate = refl
spent_among n rs (Cancel m) (Ended o) = refl
spent_among n rs (Cancel m) NotYet = refl
spent_among n rs (Collect m) Closed = refl
spent_among n rs (Collect m) Full = refl
spent_among n rs (Collect m) (Ticket k) = refl
spent_among n rs (Collect m) (Start k step words) = refl
spent_among n rs (Collect m) (Stop k) = refl
spent_among n rs (Collect m) Empty = refl
spent_among n rs (Collect m) Done = refl
spent_among n rs (Collect m) Withdrawn = refl
spent_among n rs (Collect m) Asked = refl
spent_among n rs (Collect m) TooLate = refl
spent_among n rs (Collect m) (Ended o) = among_without n m rs
spent_among n rs (Collect m) NotYet = refl

outstanding_snoc : (rs : List ℕ) (es : List Entry) (e : Entry) → outstanding_from rs (es ++ e ∷ []) ≡ without_spent (with_submitted (outstanding_from rs es) e.reply) e.call e.reply
outstanding_snoc rs [] e = refl
outstanding_snoc rs (x ∷ xs) e = outstanding_snoc (without_spent (with_submitted rs x.reply) x.call x.reply) xs e

unfinished_snoc : (rs : List ℕ) (es : List Entry) (e : Entry) → unfinished_from rs (es ++ e ∷ []) ≡ without_finished (with_started (unfinished_from rs es) e.reply) e.call
unfinished_snoc rs [] e = refl
unfinished_snoc rs (x ∷ xs) e = unfinished_snoc (without_finished (with_started rs x.reply) x.call) xs e

asked_step : (n : ℕ) (rs : List ℕ) (e : Entry) → is_among n (without_spent (with_submitted rs e.reply) e.call e.reply) ≡ cond (is_spend n e) false (cond (is_submit n e) true (is_among n rs))
asked_step n rs e = spent_among n (with_submitted rs e.reply) e.call e.reply ∙ ap (λ (b : Bool). cond (is_spend n e) false b) (submitted_among n rs e.reply)

run_step : (n : ℕ) (rs : List ℕ) (e : Entry) → is_among n (without_finished (with_started rs e.reply) e.call) ≡ cond (is_finish n e) false (cond (is_start n e) true (is_among n rs))
run_step n rs e = finished_among n (with_started rs e.reply) e.call ∙ ap (λ (b : Bool). cond (is_finish n e) false b) (started_among n rs e.reply)

-- one entry more
pub outstanding_step : (n : ℕ) (mine : List Entry) (e : Entry) → is_among n (outstanding (mine ++ e ∷ [])) ≡ cond (is_spend n e) false (cond (is_submit n e) true (is_among n (outstanding mine)))
outstanding_step n mine e = ap (is_among n) (outstanding_snoc [] mine e) ∙ asked_step n (outstanding mine) e

pub unfinished_step : (n : ℕ) (mine : List Entry) (e : Entry) → is_among n (unfinished (mine ++ e ∷ [])) ≡ cond (is_finish n e) false (cond (is_start n e) true (is_among n (unfinished mine)))
unfinished_step n mine e = ap (is_among n) (unfinished_snoc [] mine e) ∙ run_step n (unfinished mine) e

zero_bit : (b : Bool) → cond {A = ℕ} b 1 0 ≡ 0 → b ≡ false
zero_bit true e = absurd (omega arith)
zero_bit false e = refl

or_true : (a b : Bool) → b ≡ true → cond a true b ≡ true
or_true true b e = refl
or_true false b e = e

and_true : (a b : Bool) → cond a false b ≡ true → b ≡ true
and_true true b e = absurd cc
and_true false b e = e

pub new_outstanding : (n : ℕ) (mine : List Entry) (e : Entry) → is_submit n e ≡ true → is_spend n e ≡ false → Outstanding (mine ++ e ∷ []) n
new_outstanding n mine e submit no_spend = outstanding_step n mine e ∙ rw (no_spend, submit) refl

pub outstanding_stays : (n : ℕ) (mine : List Entry) (e : Entry) → is_spend n e ≡ false → Outstanding mine n → Outstanding (mine ++ e ∷ []) n
outstanding_stays n mine e no_spend u = outstanding_step n mine e ∙ rw no_spend (or_true (is_submit n e) _ u)

pub outstanding_was : (n : ℕ) (mine : List Entry) (e : Entry) → is_submit n e ≡ false → Outstanding (mine ++ e ∷ []) n → Outstanding mine n
outstanding_was n mine e no_submit u = subst (λ (b : Bool). cond b true (is_among n (outstanding mine)) ≡ true) no_submit (and_true (is_spend n e) _ (sym (outstanding_step n mine e) ∙ u))

pub spent_is_out : (n : ℕ) (mine : List Entry) (e : Entry) → is_spend n e ≡ true → Outstanding (mine ++ e ∷ []) n → ⊥
spent_is_out n mine e spend u = let z : cond (is_spend n e) false (cond (is_submit n e) true (is_among n (outstanding mine))) ≡ true = sym (outstanding_step n mine e) ∙ u in
    let y : false ≡ true = sym (ap (λ (b : Bool). cond b false (cond (is_submit n e) true (is_among n (outstanding mine)))) spend) ∙ z in absurd cc

pub new_unfinished : (n : ℕ) (mine : List Entry) (e : Entry) → is_start n e ≡ true → is_finish n e ≡ false → Unfinished (mine ++ e ∷ []) n
new_unfinished n mine e start no_finish = unfinished_step n mine e ∙ rw (no_finish, start) refl

pub unfinished_stays : (n : ℕ) (mine : List Entry) (e : Entry) → is_finish n e ≡ false → Unfinished mine n → Unfinished (mine ++ e ∷ []) n
unfinished_stays n mine e no_finish u = unfinished_step n mine e ∙ rw no_finish (or_true (is_start n e) _ u)

pub unfinished_was : (n : ℕ) (mine : List Entry) (e : Entry) → is_start n e ≡ false → Unfinished (mine ++ e ∷ []) n → Unfinished mine n
unfinished_was n mine e no_start u = subst (λ (b : Bool). cond b true (is_among n (unfinished mine)) ≡ true) no_start (and_true (is_finish n e) _ (sym (unfinished_step n mine e) ∙ u))

pub finished_is_out : (n : ℕ) (mine : List Entry) (e : Entry) → is_finish n e ≡ true → Unfinished (mine ++ e ∷ []) n → ⊥
finished_is_out n mine e finish u = let z : cond (is_finish n e) false (cond (is_start n e) true (is_among n (unfinished mine))) ≡ true = sym (unfinished_step n mine e) ∙ u in
    let y : false ≡ true = sym (ap (λ (b : Bool). cond b false (cond (is_start n e) true (is_among n (unfinished mine)))) finish) ∙ z in absurd cc

-- a request that is outstanding stays so, where the caller's entry doesn't spend it
pub still_outstanding : (c n : ℕ) (es : List Entry) (e : Entry) → e.caller ≡ c → is_spend n e ≡ false → Outstanding (of_caller c es) n → Outstanding (of_caller c (es ++ e ∷ [])) n
still_outstanding c n es e is no_spend u = subst (λ (m : List Entry). Outstanding m n) (sym (mine_last c es e is)) (outstanding_stays n (of_caller c es) e no_spend u)

-- what was never started is not unfinished
never_among : (n : ℕ) (rs : List ℕ) (es : List Entry) → is_among n rs ≡ false → times (is_start n) es ≡ 0 → is_among n (unfinished_from rs es) ≡ false
never_among n rs [] none zero = none
never_among n rs (e ∷ es) none zero = let x : ℕ = cond (is_start n e) 1 0 in let y : ℕ = times (is_start n) es in let z : x + y ≡ 0 = zero in let no_start : is_start n e ≡ false = zero_bit (is_start n e) (let g : x ≡ 0 = omega arith in g) in
    never_among n (without_finished (with_started rs e.reply) e.call) es (run_step n rs e ∙ rw (no_start, none) (elim (is_finish n e) as (λ b. cond b false false ≡ false) [ true ↦ refl | false ↦ refl ])) (let g : y ≡ 0 = omega arith in g)

pub unstarted_is_out : (n : ℕ) (mine : List Entry) → times (is_start n) mine ≡ 0 → Unfinished mine n → ⊥
unstarted_is_out n mine zero u = let f : is_among n (unfinished mine) ≡ false = never_among n [] mine refl zero in let g : false ≡ true = sym f ∙ u in absurd cc

works_one : (o : Option Request) → works o ≤ 1
works_one None = omega arith
works_one (Some q) = elim (running_state q.state) as (λ b. cond b 1 0 ≤ 1) [ true ↦ le_refl 1 | false ↦ omega arith ]

-- by one entry of the target
bits : (f s i : Bool) (w w' : ℕ) → cond {A = ℕ} i 1 0 ≡ w → w + cond s 1 0 ≡ w' + cond f 1 0 → w' ≤ 1 → (f ≡ true → s ≡ false) → cond {A = ℕ} (cond f false (cond s true i)) 1 0 ≡ w'
bits true true i w w' e h one not = absurd (let z = not refl in cc)
bits true false true w w' e h one not = let g : 0 ≡ w' = omega arith in g
bits true false false w w' e h one not = let g : 0 ≡ w' = omega arith in g
bits false true i w w' e h one not = let g : 1 ≡ w' = omega arith in g
bits false false i w w' e h one not = let g : w ≡ w' = omega arith in e ∙ g

-- the target's own entries tell what runs
runs_from : (d : Desk) (es : List Entry) → LegalFrom d es → (n : ℕ) (rs : List ℕ) → cond {A = ℕ} (is_among n rs) 1 0 ≡ works (slice_get d.requests n) → cond {A = ℕ} (is_among n (unfinished_from rs (of_caller 0 es))) 1 0 ≡ works (slice_get (after d es).requests n)
runs_from d [] l n rs was = was
runs_from d (e ∷ es) l n rs was = let m = move_of d e es l in let s = work_step d e.caller e.call e.reply (next_desk d e) m n in dite (ℕ_discrete e.caller 0)
    (λ is. let more : List ℕ = without_finished (with_started rs e.reply) e.call in
    let now : cond {A = ℕ} (is_among n more) 1 0 ≡ works (slice_get (next_desk d e).requests n) = ap (λ (b : Bool). cond {A = ℕ} b 1 0) (run_step n rs e)
    ∙ bits (is_finish n e) (is_start n e) (is_among n rs) (works (slice_get d.requests n)) (works (slice_get (next_desk d e).requests n)) was s (works_one (slice_get (next_desk d e).requests n)) (not_both d e.caller e.call e.reply (next_desk d e) m n) in
    ap (λ (l : List Entry). cond {A = ℕ} (is_among n (unfinished_from rs l)) 1 0) (mine_here 0 e es is) ∙ runs_from (next_desk d e) es l.3 n more now)
    (λ ne. let t = by_target d e.caller e.call e.reply (next_desk d e) m n ne in let a : ℕ = works (slice_get d.requests n) in let b : ℕ = works (slice_get (next_desk d e).requests n) in
    let x : ℕ = cond (starts n e.reply) 1 0 in let y : ℕ = cond (finishes n e.call) 1 0 in let s' : a + x ≡ b + y = s in let zx : x ≡ 0 = ap (λ (b : Bool). cond {A = ℕ} b 1 0) t.0 in let zy : y ≡ 0 = ap (λ (b : Bool). cond {A = ℕ} b 1 0) t.1 in let same : a ≡ b = omega arith in
    ap (λ (l : List Entry). cond {A = ℕ} (is_among n (unfinished_from rs l)) 1 0) (mine_else 0 e es ne) ∙ runs_from (next_desk d e) es l.3 n rs (was ∙ same))

pub unfinished_works : (limit : ℕ) (es : List Entry) → Legal limit es → (n : ℕ) → cond {A = ℕ} (is_among n (unfinished (of_caller 0 es))) 1 0 ≡ works (slice_get (board_of limit es).requests n)
unfinished_works limit es l n = runs_from (fresh limit) es l n [] refl

works_runs : (d : Desk) (n : ℕ) → 1 ≤ works (slice_get d.requests n) → IsRunning d n
works_runs d n h = elim (slice_get d.requests n) as (λ o. slice_get d.requests n ≡ o → 1 ≤ works o → IsRunning d n) [
  | None ↦ λ is h. absurd (omega arith)
  | Some q ↦ λ is. elim (running_state q.state) as (λ b. running_state q.state ≡ b → 1 ≤ cond b 1 0 → IsRunning d n) [ true ↦ λ w h. (q, is, w) | false ↦ λ w h. absurd (omega arith) ] refl
] refl h

one_bit : (b : Bool) → cond {A = ℕ} b 1 0 ≡ 1 → b ≡ true
one_bit true e = refl
one_bit false e = absurd (omega arith)

-- what the target's own entries say is started and not finished, is
pub unfinished_runs : (limit : ℕ) (es : List Entry) → Legal limit es → (n : ℕ) → Unfinished (of_caller 0 es) n → IsRunning (board_of limit es) n
unfinished_runs limit es l n u = works_runs (board_of limit es) n (let h = unfinished_works limit es l n in let x : ℕ = works (slice_get (board_of limit es).requests n) in let o : 1 ≡ x = sym (ap (λ (b : Bool). cond {A = ℕ} b 1 0) u) ∙ h in let g : 1 ≤ x = omega arith in g)

pub runs_unfinished : (limit : ℕ) (es : List Entry) → Legal limit es → (n : ℕ) → IsRunning (board_of limit es) n → Unfinished (of_caller 0 es) n
runs_unfinished limit es l n run = one_bit (is_among n (unfinished (of_caller 0 es))) (unfinished_works limit es l n ∙ ap works run.1 ∙ ap (λ (b : Bool). cond {A = ℕ} b 1 0) run.2)

-- where the target's own entries say that all is finished that it started, nothing runs
pub finished_none : (limit : ℕ) (es : List Entry) → Legal limit es → AllFinished (of_caller 0 es) → NoneRuns (board_of limit es)
finished_none limit es l all n q at = elim (running_state q.state) as (λ b. running_state q.state ≡ b → b ≡ false) [
  | true ↦ λ w. absurd (all n (runs_unfinished limit es l n (q, at, w)))
  | false ↦ λ w. refl
] refl

-- a request that is open by the caller's entries is the caller's
own_from : (c n : ℕ) (d : Desk) (es : List Entry) (rs : List ℕ) → LegalFrom d es → (is_among n rs ≡ true → IsOwn d c n) → is_among n (outstanding_from rs (of_caller c es)) ≡ true → IsOwn (after d es) c n
own_from c n d [] rs l was u = was u
own_from c n d (e ∷ es) rs l was u = let m = move_of d e es l in dite (ℕ_discrete e.caller c)
    (λ is. own_from c n (next_desk d e) es (without_spent (with_submitted rs e.reply) e.call e.reply) l.3
    (λ kept. let h : cond (is_spend n e) false (cond (is_submit n e) true (is_among n rs)) ≡ true = sym (asked_step n rs e) ∙ kept in
    elim (is_spend n e) as (λ b. is_spend n e ≡ b → cond b false (cond (is_submit n e) true (is_among n rs)) ≡ true → IsOwn (next_desk d e) c n) [
      | true ↦ λ w g. absurd cc
      | false ↦ λ keeps. elim (is_submit n e) as (λ b. is_submit n e ≡ b → cond b true (is_among n rs) ≡ true → IsOwn (next_desk d e) c n) [
        | true ↦ λ w g. subst (λ (k : ℕ). IsOwn (next_desk d e) k n) is (submit_step d e.caller e.call e.reply (next_desk d e) m n w)
        | false ↦ λ w g. own_step d e.caller e.call e.reply (next_desk d e) m c n (was g) (λ _. keeps)
      ] refl
    ] refl h)
    (subst (λ (l : List Entry). is_among n (outstanding_from rs l) ≡ true) (mine_here c e es is) u))
    (λ ne. own_from c n (next_desk d e) es rs l.3 (λ kept. own_step d e.caller e.call e.reply (next_desk d e) m c n (was kept) (λ is. absurd (ne is)))
    (subst (λ (l : List Entry). is_among n (outstanding_from rs l) ≡ true) (mine_else c e es ne) u))

-- what a caller's own entries say is outstanding, is the caller's and not spent
pub outstanding_own : (limit : ℕ) (es : List Entry) → Legal limit es → (c n : ℕ) → Outstanding (of_caller c es) n → IsOwn (board_of limit es) c n
outstanding_own limit es l c n u = own_from c n (fresh limit) es [] l (λ e. absurd cc) u
