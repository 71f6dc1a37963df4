-- What one entry more does to what a caller's own entries leave open.
use Rattle.std.proofs.Common.{◌≡◌, ◌≢◌, ℕ, true, false, List, [], ◌∷◌, ◌++◌, sym, refl, ap, ◌∙◌, subst, eq-eqb, ne_eqb}
use mathlib.Core.Logic.{dite}
use native.Mathlib.Decide.{ℕ_discrete}
use Rattle.kj_base.specs.declared.numbers.StepId.{StepId}
use Rattle.kj_base.specs.declared.outcomes.Outcome.{Outcome}
use Rattle.executor_core.specs.declared.entry.Entry.{Entry}
use Rattle.executor_core.specs.declared.call.Call.TheVariants as call
use Rattle.executor_core.specs.declared.call.Reply.TheVariants as reply
use Rattle.executor_core.specs.Histories.{entry, Outstanding, Unfinished, AllSpent, AllFinished, AllSpentBut, AllFinishedBut, is_submit, is_spend, is_start, times}
use Rattle.executor_core.proofs.Own.{outstanding_was, spent_is_out, unfinished_stays, unfinished_was, finished_is_out, unstarted_is_out}

-- after a submission all but the new request is spent
pub submitted_but : (c n : ℕ) (step : StepId) (words : List ℕ) (mine more : List Entry) → more ≡ mine ++ entry c (call.Submit step words) (reply.Ticket n) ∷ [] → AllSpent mine → AllSpentBut n more
submitted_but c n step words mine more is all r u = let e : Entry = entry c (call.Submit step words) (reply.Ticket n) in let u' : Outstanding (mine ++ e ∷ []) r = subst (λ (l : List Entry). Outstanding l r) is u in
    dite (ℕ_discrete r n) (λ same. same) (λ other. absurd (all r (outstanding_was r mine e (ne_eqb n r (λ x. other (sym x))) u')))

-- an entry that submits nothing
pub still_but : (n : ℕ) (e : Entry) (mine more : List Entry) → more ≡ mine ++ e ∷ [] → ((r : ℕ) → is_submit r e ≡ false) → AllSpentBut n mine → AllSpentBut n more
still_but n e mine more is none but r u = but r (outstanding_was r mine e (none r) (subst (λ (l : List Entry). Outstanding l r) is u))

-- an entry that spends the request
pub all_spent : (n : ℕ) (e : Entry) (mine more : List Entry) → more ≡ mine ++ e ∷ [] → ((r : ℕ) → is_submit r e ≡ false) → is_spend n e ≡ true → AllSpentBut n mine → AllSpent more
all_spent n e mine more is none spends but r u = let u' : Outstanding (mine ++ e ∷ []) r = subst (λ (l : List Entry). Outstanding l r) is u in let same : r ≡ n = but r (outstanding_was r mine e (none r) u') in
    spent_is_out r mine e (ap (λ (k : ℕ). is_spend k e) same ∙ spends) u'

-- after a start all but the new request is finished
pub started_but : (n : ℕ) (step : StepId) (words : List ℕ) (mine more : List Entry) → more ≡ mine ++ entry 0 call.Next (reply.Start n step words) ∷ [] → AllFinished mine → AllFinishedBut n more
started_but n step words mine more is all r u = let e : Entry = entry 0 call.Next (reply.Start n step words) in let u' : Unfinished (mine ++ e ∷ []) r = subst (λ (l : List Entry). Unfinished l r) is u in
    dite (ℕ_discrete r n) (λ same. same) (λ other. absurd (all r (unfinished_was r mine e (ne_eqb n r (λ x. other (sym x))) u')))

-- the finish of that request
pub all_finished : (n : ℕ) (o : Outcome) (mine more : List Entry) → more ≡ mine ++ entry 0 (call.Finish n o) reply.Done ∷ [] → AllFinishedBut n mine → AllFinished more
all_finished n o mine more is but r u = let e : Entry = entry 0 (call.Finish n o) reply.Done in let u' : Unfinished (mine ++ e ∷ []) r = subst (λ (l : List Entry). Unfinished l r) is u in let same : r ≡ n = but r (unfinished_was r mine e refl u') in
    finished_is_out r mine e (eq-eqb n r (sym same)) u'

-- an entry that starts nothing
pub still_finished : (e : Entry) (mine more : List Entry) → more ≡ mine ++ e ∷ [] → ((r : ℕ) → is_start r e ≡ false) → AllFinished mine → AllFinished more
still_finished e mine more is none all r u = all r (unfinished_was r mine e (none r) (subst (λ (l : List Entry). Unfinished l r) is u))

-- the same where one is not finished, as when the target is told to stop it
pub still_finished_but : (n : ℕ) (e : Entry) (mine more : List Entry) → more ≡ mine ++ e ∷ [] → ((r : ℕ) → is_start r e ≡ false) → AllFinishedBut n mine → AllFinishedBut n more
still_finished_but n e mine more is none but r u = but r (unfinished_was r mine e (none r) (subst (λ (l : List Entry). Unfinished l r) is u))

-- another request starts and is finished, while one is not
pub still_unfinished : (n m : ℕ) (step : StepId) (words : List ℕ) (o : Outcome) (mine first second : List Entry) → first ≡ mine ++ entry 0 call.Next (reply.Start m step words) ∷ [] → second ≡ first ++ entry 0 (call.Finish m o) reply.Done ∷ []
    → times (is_start m) mine ≡ 0 → Unfinished mine n → Unfinished second n
still_unfinished n m step words o mine first second is then new u = let s : Entry = entry 0 call.Next (reply.Start m step words) in let f : Entry = entry 0 (call.Finish m o) reply.Done in
    let other : n ≢ m = λ e. unstarted_is_out m mine new (subst (Unfinished mine) e u) in
    subst (λ (l : List Entry). Unfinished l n) (sym (then ∙ ap (λ (l : List Entry). l ++ f ∷ []) is)) (unfinished_stays n (mine ++ s ∷ []) f (ne_eqb m n (λ e. other (sym e))) (unfinished_stays n mine s refl u))

pub all_but_between : (n m : ℕ) (step : StepId) (words : List ℕ) (o : Outcome) (mine first second : List Entry) → first ≡ mine ++ entry 0 call.Next (reply.Start m step words) ∷ [] → second ≡ first ++ entry 0 (call.Finish m o) reply.Done ∷ []
    → AllFinishedBut n mine → AllFinishedBut n second
all_but_between n m step words o mine first second is then but r u = let s : Entry = entry 0 call.Next (reply.Start m step words) in let f : Entry = entry 0 (call.Finish m o) reply.Done in
    let u' : Unfinished ((mine ++ s ∷ []) ++ f ∷ []) r = subst (λ (l : List Entry). Unfinished l r) (then ∙ ap (λ (l : List Entry). l ++ f ∷ []) is) u in
    dite (ℕ_discrete m r) (λ same. absurd (finished_is_out r (mine ++ s ∷ []) f (eq-eqb m r same) u'))
    (λ other. but r (unfinished_was r mine s (ne_eqb m r other) (unfinished_was r (mine ++ s ∷ []) f refl u')))
