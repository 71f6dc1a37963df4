-- Records that agree with bodies.
use Rattle.std.proofs.Common.{◌≡◌, ◌⊎◌, ℕ, suc, List, [], ◌∷◌, ◌++◌, map, Some, true, false, ◌==◌, refl, sym, ap, ◌∙◌, subst, inl, inr, arith, append_assoc, append-nil}
use Rattle.std.proofs.lemmas.Bool.{cases_Bool}
use Rattle.std.proofs.lemmas.Bool.Decides.{nat_tests}
use Rattle.kj_base.specs.Commands.{Action}
use Rattle.kj_base.specs.Record.{Item, Run, Free}
use Rattle.kj_base.specs.declared.outcomes.Outcome.{Outcome}
use Rattle.kj_model.specs.Log.{Body, scripted, passing, at_or_last, bodies_of, runs_of, Told as ToldLine}
use Rattle.kj_model.specs.Text.{log_text}
use Rattle.promise_commands.specs.Answers.{Answer, Agrees}
use Rattle.promise_commands.specs.Telling.{telling}
use Rattle.promise_steps.specs.Order.{IsLeft}
use Rattle.promise_steps.specs.Following.{coming, since, Printed, Prints}

-- one run more, with the action that was answered
pub agrees_more : (answer : Answer) (past items : List Item) (n step : ℕ) (input : Outcome) (action : Action)
    → Agrees answer past items → answer (past ++ items) step ≡ Some action → Agrees answer past (items ++ Run n step input action ∷ [])
agrees_more answer past [] n step input action so same = (subst (λ (xs : List Item). answer xs step ≡ Some action) (append-nil past) same, tt)
agrees_more answer past (Run m s i a ∷ items) n step input action so same = (
  so.0,
  agrees_more answer (past ++ Run m s i a ∷ []) items n step input action so.1
      (subst (λ (xs : List Item). answer xs step ≡ Some action) (sym (append_assoc past (Run m s i a ∷ []) items)) same),
)
agrees_more answer past (Free m ∷ items) n step input action so same =
    agrees_more answer (past ++ Free m ∷ []) items n step input action so
    (subst (λ (xs : List Item). answer xs step ≡ Some action) (sym (append_assoc past (Free m ∷ []) items)) same)

-- one free more
pub agrees_freed : (answer : Answer) (past items : List Item) (n : ℕ) → Agrees answer past items → Agrees answer past (items ++ Free n ∷ [])
agrees_freed answer past [] n so = tt
agrees_freed answer past (Run m s i a ∷ items) n so = (so.0, agrees_freed answer (past ++ Run m s i a ∷ []) items n so.1)
agrees_freed answer past (Free m ∷ items) n so = agrees_freed answer (past ++ Free m ∷ []) items n so

-- what agrees with the bodies that are left agrees with the script's
pub agrees_after : (left bodies : List Body) (past done items : List Item)
    → IsLeft left bodies past → Agrees (scripted left) done items → Agrees (scripted bodies) (past ++ done) items
agrees_after left bodies past done [] is so = tt
agrees_after left bodies past done (Run n s i a ∷ items) is so = (
  sym (is done s) ∙ so.0,
  subst (λ (xs : List Item). Agrees (scripted bodies) xs items) (sym (append_assoc past done (Run n s i a ∷ [])))
      (agrees_after left bodies past (done ++ Run n s i a ∷ []) items is so.1),
)
agrees_after left bodies past done (Free n ∷ items) is so =
    subst (λ (xs : List Item). Agrees (scripted bodies) xs items) (sym (append_assoc past done (Free n ∷ [])))
    (agrees_after left bodies past (done ++ Free n ∷ []) items is so)

-- what is left of the bodies that were left
pub left_twice : (now left bodies : List Body) (past items : List Item) → IsLeft now left items → IsLeft left bodies past → IsLeft now bodies (past ++ items)
left_twice now left bodies past items after before more step =
    after more step ∙ before (items ++ more) step ∙ ap (λ (xs : List Item). scripted bodies xs step) (sym (append_assoc past items more))

-- a free takes no body
pub left_freed : (left : List Body) (n : ℕ) → IsLeft left left (Free n ∷ [])
left_freed left n more step = refl

-- one run of a step more
runs_here : (n step : ℕ) (input : Outcome) (action : Action) (more : List Item) → runs_of step (Run n step input action ∷ more) ≡ suc (runs_of step more)
runs_here n step input action more = let same : (step == step) ≡ true = grind (arith, nat_tests) in rw same (omega arith)

runs_elsewhere : (n other step : ℕ) (input : Outcome) (action : Action) (more : List Item) → (other == step) ≡ false → runs_of step (Run n other input action ∷ more) ≡ runs_of step more
runs_elsewhere n other step input action more apart = rw apart refl

-- a run took the first body of its step, and none of another step
pub left_run : (new old : List Body) (step n : ℕ) (input : Outcome) (action : Action)
    → ((other : ℕ) → (step == other) ≡ false → bodies_of other new ≡ bodies_of other old)
    → ((k : ℕ) → at_or_last passing (bodies_of step new) k ≡ at_or_last passing (bodies_of step old) (suc k))
    → IsLeft new old (Run n step input action ∷ [])
left_run new old step n input action others one more other = by (cases_Bool (step == other))
  where
    by : ((step == other) ≡ true) ⊎ ((step == other) ≡ false) → scripted new more other ≡ scripted old (Run n step input action ∷ more) other
    by (inr apart) =
        ap (λ (l : List Action). Some (at_or_last passing l (runs_of other more))) (others other apart)
        ∙ ap (λ (k : ℕ). Some (at_or_last passing (bodies_of other old) k)) (sym (runs_elsewhere n step other input action more apart))
    by (inl here) =
        let same : step ≡ other = grind (arith, nat_tests) in
        subst (λ (t : ℕ). scripted new more t ≡ scripted old (Run n step input action ∷ more) t) same
        (ap (λ (a : Action). Some a) (one (runs_of step more))
        ∙ ap (λ (k : ℕ). Some (at_or_last passing (bodies_of step old) k)) (sym (runs_here n step input action more)))

-- what stands before the mark, and what stands behind it
since_same : (a b : List Body) (xs ys : List Item) → since a xs ≡ since b ys → (a ≡ b) × (xs ≡ ys)
since_same [] [] xs ys same = (refl, cc (same))
since_same [] (y ∷ b) xs ys same = absurd (cc (same))
since_same (x ∷ a) [] xs ys same = absurd (cc (same))
since_same (x ∷ a) (y ∷ b) xs ys same =
    let rest : since a xs ≡ since b ys = cc (same) in
    let tail = since_same a b xs ys rest in
    let steps : x.step ≡ y.step = cc (same) in
    let actions : x.action ≡ y.action = cc (same) in
    let first : x ≡ y = λ i. record { step = steps i; action = actions i } in
    ((λ i. first i ∷ tail.0 i), tail.1)

-- a printing of all that was told since the last one
pub prints : (left now : List Body) (items : List Item) (old new : List ℕ)
    → Agrees (scripted left) [] items → IsLeft now left items → new ≡ old ++ log_text (map ToldLine items)
    → Prints (telling (Some (since left items))) (telling (Some (since now []))) old new
prints left now items old new agrees is grown bodies past more last follows told =
    subst (λ (xs : List Item). Printed bodies past xs (telling (Some (since now []))) old new) same.1 (record {
      agrees = subst (λ (xs : List Item). Agrees (scripted bodies) xs items) (append-nil past) (agrees_after left bodies past [] items before agrees);
      follows = record { left = now; told_is = refl; is_left = left_twice now left bodies past items is before };
      text = grown;
    })
  where
    whole : Some (since follows.left []) ≡ Some told.told.0
    whole = sym follows.told_is ∙ told.told.1

    there : told.told.0 ≡ since follows.left []
    there = cc (whole)

    both : since left items ≡ since follows.left more
    both = told.told.2 ∙ ap (λ (xs : List Item). xs ++ more) there ∙ append_assoc (map coming follows.left) (Free 0 ∷ []) more

    same : (left ≡ follows.left) × (items ≡ more)
    same = since_same left follows.left items more both

    before : IsLeft left bodies past
    before = subst (λ (l : List Body). IsLeft l bodies past) (sym same.0) follows.is_left
