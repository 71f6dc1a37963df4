-- Where in a history a request ends.
use Rattle.std.proofs.Common.{◌≡◌, ℕ, suc, ◌+◌, ◌<◌, ◌≤◌, ◌≢◌, ◌⊎◌, ◌==◌, Bool, true, false, cond, List, [], ◌∷◌, ◌++◌, length, length-append, refl, ap, ◌∙◌, sym, arith, inl, inr, ⊎_elim, eq-eqb, ne_eqb, Option, Some, None}
use mathlib.Core.Logic.{dite}
use native.Mathlib.Decide.{ℕ_discrete}
use Rattle.std.specs.Prelude.{slice_get}
use Rattle.std.proofs.lemmas.List.{length-map}
use Rattle.std.proofs.lemmas.Option.{slice_get_within}
use Rattle.kj_base.specs.declared.outcomes.Outcome.{Outcome}
use Rattle.executor_core.specs.declared.request.State.{State}
use Rattle.executor_core.specs.declared.request.State.TheVariants.{Queued, Executing, Canceling, Stopping, Done as DoneState, Spent}
use Rattle.executor_core.specs.declared.request.Request.{Request}
use Rattle.executor_core.specs.declared.entry.Entry.{Entry}
use Rattle.executor_core.specs.declared.call.Call.{Call}
use Rattle.executor_core.specs.declared.call.Call.TheVariants.{Collect}
use Rattle.executor_core.specs.declared.call.Reply.{Reply}
use Rattle.executor_core.specs.declared.call.Reply.TheVariants.{Ended}
use Rattle.executor_core.specs.Acts.{Desk, act, collected_at, spent_state, ended_state, new_request, shut}
use Rattle.executor_core.specs.Histories.{after, LegalFrom, fresh, Legal, board_of, times, of_caller, is_start, is_finish, is_close, finishes, over, ends_by, ends_from, starts_in, Outstanding}
use Rattle.executor_core.specs.Ends.{end_from, end_of}
use Rattle.executor_core.proofs.Moves.{Shift, Starts, Stops, Finishes, Withdraws, Asks, Collects, Move, Submits, Sets, Closes}
use Rattle.executor_core.proofs.Steps.{works, set_length, at_state, get_snoc}
use Rattle.executor_core.proofs.Answered.{collected_is}
use Rattle.executor_core.proofs.Legal.{next_desk, move_of, one_end, ends_as_over, works_between, closed_from}
use Rattle.executor_core.proofs.Own.{outstanding_own}

-- a longer history keeps the place
stays_from : (d : Desk) (at r : ℕ) (es more : List Entry) (p : ℕ) → end_from d at r es ≡ Some p → end_from d at r (es ++ more) ≡ Some p
stays_from d at r [] more p h = absurd cc
stays_from d at r (e ∷ es) more p h = elim (ends_by d r e.call e.reply == 0) as (λ b. cond b (end_from (next_desk d e) (at + 1) r es) (Some at) ≡ Some p → cond b (end_from (next_desk d e) (at + 1) r (es ++ more)) (Some at) ≡ Some p) [
  | true ↦ λ h. stays_from (next_desk d e) (at + 1) r es more p h
  | false ↦ λ h. h
] h

pub end_stays : (limit : ℕ) (es more : List Entry) (r p : ℕ) → end_of limit es r ≡ Some p → end_of limit (es ++ more) r ≡ Some p
end_stays limit es more r p h = stays_from (fresh limit) 0 r es more p h

-- it is a place of the history
within_from : (d : Desk) (at r : ℕ) (es : List Entry) (p : ℕ) → end_from d at r es ≡ Some p → p < at + length es
within_from d at r [] p h = absurd cc
within_from d at r (e ∷ es) p h = elim (ends_by d r e.call e.reply == 0) as (λ b. cond b (end_from (next_desk d e) (at + 1) r es) (Some at) ≡ Some p → p < at + length (e ∷ es)) [
  | true ↦ λ h. let g = within_from (next_desk d e) (at + 1) r es p h in let n : ℕ = length es in let g' : p < at + 1 + n = g in let k : suc n ≡ n + 1 = omega arith in omega arith
  | false ↦ λ h. let same : at ≡ p = cc in let n : ℕ = length es in let k : suc n ≡ n + 1 = omega arith in omega arith
] h

pub end_within : (limit : ℕ) (es : List Entry) (r p : ℕ) → end_of limit es r ≡ Some p → p < length es
end_within limit es r p h = let g = within_from (fresh limit) 0 r es p h in omega arith

-- a new place is that of the last entry
fresh_from : (d : Desk) (at r : ℕ) (es : List Entry) (e : Entry) (p : ℕ) → end_from d at r (es ++ e ∷ []) ≡ Some p → (end_from d at r es ≡ Some p) ⊎ (p ≡ at + length es)
fresh_from d at r [] e p h = elim (ends_by d r e.call e.reply == 0) as (λ b. cond b None (Some at) ≡ Some p → (None ≡ Some p) ⊎ (p ≡ at + 0)) [
  | true ↦ λ h. inl h
  | false ↦ λ h. inr (let same : at ≡ p = cc in omega arith)
] h
fresh_from d at r (x ∷ es) e p h = elim (ends_by d r x.call x.reply == 0) as (λ b. cond b (end_from (next_desk d x) (at + 1) r (es ++ e ∷ [])) (Some at) ≡ Some p
    → (cond b (end_from (next_desk d x) (at + 1) r es) (Some at) ≡ Some p) ⊎ (p ≡ at + length (x ∷ es))) [
      | true ↦ λ h. ⊎_elim (λ g. inl g) (λ g. inr (let n : ℕ = length es in let g' : p ≡ at + 1 + n = g in let k : suc n ≡ n + 1 = omega arith in omega arith)) (fresh_from (next_desk d x) (at + 1) r es e p h)
      | false ↦ λ h. inl h
    ] h

pub end_fresh : (limit : ℕ) (es : List Entry) (e : Entry) (r p : ℕ) → end_of limit (es ++ e ∷ []) r ≡ Some p → (end_of limit es r ≡ Some p) ⊎ (p ≡ length es)
end_fresh limit es e r p h = ⊎_elim (λ g. inl g) (λ g. inr (let n : ℕ = length es in let g' : p ≡ 0 + n = g in let k : p ≡ n = omega arith in k)) (fresh_from (fresh limit) 0 r es e p h)

-- an entry that doesn't end the request is not the place of its end
other_last : (d : Desk) (at r : ℕ) (es : List Entry) (e : Entry) → ends_by (after d es) r e.call e.reply ≡ 0 → end_from d at r (es ++ e ∷ []) ≡ Some (at + length es) → ⊥
other_last d at r [] e none h = let z : cond (ends_by d r e.call e.reply == 0) None (Some at) ≡ Some (at + 0) = h in
    let y : None ≡ Some (at + 0) = sym (ap (λ (b : Bool). cond b None (Some at)) (eq-eqb (ends_by d r e.call e.reply) 0 none)) ∙ z in cc
other_last d at r (x ∷ es) e none h = elim (ends_by d r x.call x.reply == 0) as (λ b. cond b (end_from (next_desk d x) (at + 1) r (es ++ e ∷ [])) (Some at) ≡ Some (at + length (x ∷ es)) → ⊥) [
  | true ↦ λ h. other_last (next_desk d x) (at + 1) r es e none (h ∙ ap Some (let n : ℕ = length es in let k : at + suc n ≡ at + 1 + n = omega arith in k))
  | false ↦ λ h. let n : ℕ = length es in let same : at ≡ at + suc n = cc in omega arith
] h

pub end_elsewhere : (limit : ℕ) (es : List Entry) (e : Entry) (r : ℕ) → ends_by (board_of limit es) r e.call e.reply ≡ 0 → end_of limit (es ++ e ∷ []) r ≡ Some (length es) → ⊥
end_elsewhere limit es e r none h = other_last (fresh limit) 0 r es e none (h ∙ ap Some (let n : ℕ = length es in let k : n ≡ 0 + n = omega arith in k))

-- where nothing ends the request there is no place
none_from : (d : Desk) (at r : ℕ) (es : List Entry) → ends_from d r es ≡ 0 → end_from d at r es ≡ None
none_from d at r [] none = refl
none_from d at r (e ∷ es) none = let a : ℕ = ends_by d r e.call e.reply in let b : ℕ = ends_from (next_desk d e) r es in let z : a + b ≡ 0 = none in
    let za : a ≡ 0 = omega arith in let zb : b ≡ 0 = omega arith in
    ap (λ (x : Bool). cond x (end_from (next_desk d e) (at + 1) r es) (Some at)) (eq-eqb a 0 za) ∙ none_from (next_desk d e) (at + 1) r es zb

-- and where there is one, something does
some_from : (d : Desk) (at r : ℕ) (es : List Entry) (p : ℕ) → end_from d at r es ≡ Some p → 1 ≤ ends_from d r es
some_from d at r es p h = dite (ℕ_discrete (ends_from d r es) 0)
    (λ z. let e : None ≡ Some p = sym (none_from d at r es z) ∙ h in absurd cc)
    (λ ne. let n : ℕ = ends_from d r es in let g : n ≢ 0 = ne in let k : 1 ≤ n = omega arith in k)

last_from : (d : Desk) (at r : ℕ) (es : List Entry) (e : Entry) → ends_from d r es ≡ 0 → ends_by (after d es) r e.call e.reply ≡ 1 → end_from d at r (es ++ e ∷ []) ≡ Some (at + length es)
last_from d at r [] e none ends = let z : at ≡ at + 0 = omega arith in
    ap (λ (x : Bool). cond x None (Some at)) (ne_eqb (ends_by d r e.call e.reply) 0 (λ w. let a : ℕ = ends_by d r e.call e.reply in let one : a ≡ 1 = ends in let zero : a ≡ 0 = w in omega arith)) ∙ ap Some z
last_from d at r (x ∷ es) e none ends = let a : ℕ = ends_by d r x.call x.reply in let b : ℕ = ends_from (next_desk d x) r es in let z : a + b ≡ 0 = none in
    let za : a ≡ 0 = omega arith in let zb : b ≡ 0 = omega arith in let n : ℕ = length es in let k : at + 1 + n ≡ at + suc n = omega arith in
    ap (λ (y : Bool). cond y (end_from (next_desk d x) (at + 1) r (es ++ e ∷ [])) (Some at)) (eq-eqb a 0 za) ∙ last_from (next_desk d x) (at + 1) r es e zb ends ∙ ap Some k

ends_append : (d : Desk) (r : ℕ) (es : List Entry) (e : Entry) → ends_from d r (es ++ e ∷ []) ≡ ends_from d r es + ends_by (after d es) r e.call e.reply
ends_append d r [] e = let a : ℕ = ends_by d r e.call e.reply in let g : a + 0 ≡ 0 + a = omega arith in g
ends_append d r (x ∷ es) e = let h = ends_append (next_desk d x) r es e in let a : ℕ = ends_by d r x.call x.reply in let b : ℕ = ends_from (next_desk d x) r (es ++ e ∷ []) in
    let c : ℕ = ends_from (next_desk d x) r es in let f : ℕ = ends_by (after (next_desk d x) es) r e.call e.reply in let h' : b ≡ c + f = h in let g : a + b ≡ a + c + f = omega arith in g

-- the last entry of a legal history, where it ends the request
pub end_here : (limit : ℕ) (es : List Entry) (e : Entry) (r : ℕ) → Legal limit (es ++ e ∷ []) → ends_by (board_of limit es) r e.call e.reply ≡ 1 → end_of limit (es ++ e ∷ []) r ≡ Some (length es)
end_here limit es e r l ends = let o = one_end limit (es ++ e ∷ []) l r in let s = ends_append (fresh limit) r es e in
    let x : ℕ = ends_from (fresh limit) r es in let y : ℕ = ends_by (board_of limit es) r e.call e.reply in let z : ℕ = ends_from (fresh limit) r (es ++ e ∷ []) in
    let o' : z ≤ 1 = o in let s' : z ≡ x + y = s in let y' : y ≡ 1 = ends in let none : x ≡ 0 = omega arith in
    last_from (fresh limit) 0 r es e none ends ∙ ap Some (let n : ℕ = length es in let k : 0 + n ≡ n = omega arith in k)

-- there are no more requests than the limit
limit_step : (d : Desk) (k : ℕ) (call : Call) (reply : Reply) (d' : Desk) → Move d k call reply d' → length d.requests ≤ d.limit → (length d'.requests ≤ d'.limit) × (d'.limit ≡ d.limit)
limit_step d k _ _ _ (Submits step words opened room) w = (let l = length-append d.requests (new_request k step words ∷ []) in omega arith, refl)
limit_step d k call reply _ (Sets _ _ r q st at shift) w = (let s = set_length d.requests r q st at in omega arith, refl)
limit_step d k _ _ _ (Closes target none opened) w = (let l = length-map d.requests shut in omega arith, refl)

limit_from : (d : Desk) (es : List Entry) → LegalFrom d es → length d.requests ≤ d.limit → (length (after d es).requests ≤ (after d es).limit) × ((after d es).limit ≡ d.limit)
limit_from d [] l w = (w, refl)
limit_from d (e ∷ es) l w = let s = limit_step d e.caller e.call e.reply (next_desk d e) (move_of d e es l) w in let h = limit_from (next_desk d e) es l.3 s.0 in (h.0, h.1 ∙ s.1)

pub requests_within : (limit : ℕ) (es : List Entry) → Legal limit es → length (board_of limit es).requests ≤ limit
requests_within limit es l = let w = limit_from (fresh limit) es l (omega arith) in let a = w.0 in let b : (board_of limit es).limit ≡ limit = w.1 in omega arith

-- a caller's own request is below the limit
pub own_below : (limit : ℕ) (es : List Entry) (c r : ℕ) → Legal limit es → Outstanding (of_caller c es) r → r < limit
own_below limit es c r l u = let own = outstanding_own limit es l c r u in let k = slice_get_within (board_of limit es).requests r own.0 own.1 in let w = requests_within limit es l in omega arith

over_there : (rs : List Request) (r : ℕ) → 1 ≤ over (slice_get rs r) → (q : Request) × (slice_get rs r ≡ Some q) × (ended_state q.state ≡ true)
over_there rs r h = elim (slice_get rs r) as (λ o. 1 ≤ over o → (q : Request) × (o ≡ Some q) × (ended_state q.state ≡ true)) [
  | None ↦ λ h. absurd (omega arith)
  | Some q ↦ elim (ended_state q.state) as (λ b. ended_state q.state ≡ b → 1 ≤ cond b 1 0 → (x : Request) × (Some q ≡ Some x) × (ended_state x.state ≡ true)) [
    | true ↦ λ is h. (q, refl, is)
    | false ↦ λ is h. absurd (omega arith)
  ] refl
] h

-- a request that the last entry ends is below the limit
pub end_below : (limit : ℕ) (es : List Entry) (e : Entry) (r : ℕ) → Legal limit (es ++ e ∷ []) → ends_by (board_of limit es) r e.call e.reply ≡ 1 → r < limit
end_below limit es e r l ends = let s = ends_append (fresh limit) r es e in let o = ends_as_over (fresh limit) (es ++ e ∷ []) l r in
    let x : ℕ = ends_from (fresh limit) r es in let y : ℕ = ends_by (board_of limit es) r e.call e.reply in let z : ℕ = ends_from (fresh limit) r (es ++ e ∷ []) in let v : ℕ = over (slice_get (board_of limit (es ++ e ∷ [])).requests r) in
    let s' : z ≡ x + y = s in let y' : y ≡ 1 = ends in let o' : 0 + z ≡ v = o in let one : 1 ≤ v = omega arith in
    let h = over_there (board_of limit (es ++ e ∷ [])).requests r one in let k = slice_get_within (board_of limit (es ++ e ∷ [])).requests r h.0 h.1 in
    let w = limit_from (fresh limit) (es ++ e ∷ []) l (omega arith) in let a = w.0 in let b : (board_of limit (es ++ e ∷ [])).limit ≡ limit = w.1 in omega arith

-- a request whose end has a place has ended
pub placed_over : (limit : ℕ) (es : List Entry) (r p : ℕ) → Legal limit es → end_of limit es r ≡ Some p → (q : Request) × (slice_get (board_of limit es).requests r ≡ Some q) × (ended_state q.state ≡ true)
placed_over limit es r p l h = let n = some_from (fresh limit) 0 r es p h in let o = ends_as_over (fresh limit) es l r in
    let z : ℕ = ends_from (fresh limit) r es in let v : ℕ = over (slice_get (board_of limit es).requests r) in let n' : 1 ≤ z = n in let o' : 0 + z ≡ v = o in let one : 1 ≤ v = omega arith in
    over_there (board_of limit es).requests r one

ended_collects : (d : Desk) (r : ℕ) (st : State) → ended_state st ≡ true → spent_state st ≡ false → (o : Outcome) × ((collected_at d r st).1 ≡ Ended o)
ended_collects d r Queued e s = absurd cc
ended_collects d r Executing e s = absurd cc
ended_collects d r Canceling e s = absurd cc
ended_collects d r Stopping e s = absurd cc
ended_collects d r (DoneState o) e s = (o, refl)
ended_collects d r Spent e s = absurd cc

-- its caller, who hasn't collected it yet, is given its outcome
pub placed_collects : (limit : ℕ) (es : List Entry) (c r p : ℕ) → Legal limit es → Outstanding (of_caller c es) r → end_of limit es r ≡ Some p → (o : Outcome) × ((act (board_of limit es) c (Collect r)).1 ≡ Ended o)
placed_collects limit es c r p l u h = let d : Desk = board_of limit es in let own = outstanding_own limit es l c r u in let over = placed_over limit es r p l h in
    let same : over.0 ≡ own.0 = let a = over.1 in let b = own.1 in cc in let done : ended_state own.0.state ≡ true = ap (λ (q : Request). ended_state q.state) (sym same) ∙ over.2 in
    let k = ended_collects d r own.0.state done own.3 in (k.0, ap (λ (x : Desk × Reply). x.1) (collected_is d r own.0 own.1) ∙ k.1)

-- the entry at the place of an end
entry_from : (d : Desk) (at r : ℕ) (es : List Entry) (p : ℕ) → end_from d at r es ≡ Some p
    → (before : List Entry) × (e : Entry) × (more : List Entry) × (es ≡ before ++ e ∷ more) × (p ≡ at + length before) × (ends_by (after d before) r e.call e.reply ≢ 0)
entry_from d at r [] p h = absurd cc
entry_from d at r (x ∷ es) p h = dite (ℕ_discrete (ends_by d r x.call x.reply) 0)
    (λ z. let k : end_from (next_desk d x) (at + 1) r es ≡ Some p = sym (ap (λ (b : Bool). cond b (end_from (next_desk d x) (at + 1) r es) (Some at)) (eq-eqb (ends_by d r x.call x.reply) 0 z)) ∙ h in
    let g = entry_from (next_desk d x) (at + 1) r es p k in
    (x ∷ g.0, g.1, g.2, ap (λ (l : List Entry). x ∷ l) g.3, (let n : ℕ = length g.0 in let w : p ≡ at + 1 + n = g.4 in let y : p ≡ at + suc n = omega arith in y), g.5))
    (λ ne. let k : Some at ≡ Some p = sym (ap (λ (b : Bool). cond b (end_from (next_desk d x) (at + 1) r es) (Some at)) (ne_eqb (ends_by d r x.call x.reply) 0 ne)) ∙ h in
    let same : at ≡ p = cc in ([], x, es, refl, (let y : p ≡ at + 0 = omega arith in y), ne))

pub end_entry : (limit : ℕ) (es : List Entry) (r p : ℕ) → end_of limit es r ≡ Some p
    → (before : List Entry) × (e : Entry) × (more : List Entry) × (es ≡ before ++ e ∷ more) × (length before ≡ p) × (ends_by (board_of limit before) r e.call e.reply ≢ 0)
end_entry limit es r p h = let g = entry_from (fresh limit) 0 r es p h in (g.0, g.1, g.2, g.3, (let n : ℕ = length g.0 in let w : p ≡ 0 + n = g.4 in let y : n ≡ p = omega arith in y), g.5)

-- it has ended, and isn't spent
abbrev is_done : State → Bool
is_done (DoneState o) = true
is_done _ = false

-- 1 where the request is there and has ended, and isn't spent
abbrev done : Option Request → ℕ
done None = 0
done (Some q) = cond (is_done q.state) 1 0

done_shift : (k r : ℕ) (q : Request) (call : Call) (reply : Reply) (st : State) (n : ℕ) → Shift k r q call reply st → n ≡ r → done (Some (record q { state = st })) ≤ done (Some q) + cond (finishes n call) 1 0
done_shift k r q _ _ _ n (Starts t w) is = omega arith
done_shift k r q _ _ _ n (Stops t w) is = omega arith
done_shift k r q _ _ _ n (Finishes o t w) is = rw (eq-eqb r n (sym is)) (omega arith)
done_shift k r q _ _ _ n (Withdraws t w) is = omega arith
done_shift k r q _ _ _ n (Asks t w) is = omega arith
done_shift k r q _ _ _ n (Collects o t w) is = omega arith

-- in an open executor, only a finish leaves a request so
done_step : (d : Desk) (k : ℕ) (call : Call) (reply : Reply) (d' : Desk) → Move d k call reply d' → d'.closed ≡ false → (n : ℕ) → done (slice_get d'.requests n) ≤ done (slice_get d.requests n) + cond (finishes n call) 1 0
done_step d k _ _ _ (Submits step words opened room) o n = ⊎_elim (λ h. rw (h.1, h.2) (omega arith)) (λ h. rw h (omega arith)) (get_snoc d.requests (new_request k step words) n)
done_step d k call reply _ (Sets _ _ r q st at shift) o n =
    ⊎_elim (λ h. rw (h.1, h.2) (done_shift k r q call reply st n shift h.0)) (λ h. rw h.1 (omega arith)) (at_state d.requests r q st at n)
done_step d k _ _ _ (Closes target none opened) o n = absurd cc

open_before : (d : Desk) (es : List Entry) → LegalFrom d es → (after d es).closed ≡ false → d.closed ≡ false
open_before d es l o = let h = closed_from d es l in elim d.closed as (λ b. cond {A = ℕ} b 1 0 + times is_close es ≡ cond (after d es).closed 1 0 → b ≡ false) [
  | true ↦ λ h. let n : ℕ = times is_close es in let x : ℕ = cond (after d es).closed 1 0 in let z : x ≡ 0 = ap (λ (b : Bool). cond {A = ℕ} b 1 0) o in let g : 1 + n ≡ x = h in absurd (omega arith)
  | false ↦ λ h. refl
] h

done_from : (d : Desk) (es : List Entry) → LegalFrom d es → (after d es).closed ≡ false → (n : ℕ) → done (slice_get (after d es).requests n) ≤ done (slice_get d.requests n) + times (is_finish n) es
done_from d [] l o n = let x : ℕ = done (slice_get d.requests n) in let g : x ≤ x + 0 = omega arith in g
done_from d (e ∷ es) l o n = let h = done_from (next_desk d e) es l.3 o n in let s = done_step d e.caller e.call e.reply (next_desk d e) (move_of d e es l) (open_before (next_desk d e) es l.3 o) n in
    let f : ℕ = cond (finishes n e.call) 1 0 in let g : ℕ = times (is_finish n) es in let x : ℕ = done (slice_get (after (next_desk d e) es).requests n) in let y : ℕ = done (slice_get (next_desk d e).requests n) in let z : ℕ = done (slice_get d.requests n) in
    let h' : x ≤ y + g = h in let s' : y ≤ z + f = s in let r : x ≤ z + (f + g) = omega arith in r

-- in an open executor, a request that has ended and isn't spent was started
pub done_started : (limit : ℕ) (es : List Entry) → Legal limit es → (board_of limit es).closed ≡ false → (n : ℕ) (q : Request) (o : Outcome) → slice_get (board_of limit es).requests n ≡ Some q → q.state ≡ DoneState o → 1 ≤ starts_in es n
done_started limit es l opened n q o at is = let h = done_from (fresh limit) es l opened n in let w = works_between (fresh limit) es l n in
    let a : ℕ = times (is_start n) es in let b : ℕ = times (is_finish n) es in let x : ℕ = done (slice_get (board_of limit es).requests n) in let y : ℕ = works (slice_get (board_of limit es).requests n) in
    let h' : x ≤ 0 + b = h in let w' : 0 + a ≡ y + b = w in let one : x ≡ 1 = ap done at ∙ ap (λ (st : State). cond {A = ℕ} (is_done st) 1 0) is in let g : 1 ≤ a = omega arith in g
