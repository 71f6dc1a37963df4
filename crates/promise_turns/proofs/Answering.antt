-- Answers that agree with a record, and what they give after it.
use Rattle.std.proofs.Common.{◌≡◌, ◌∙◌, ℕ, zero, suc, List, [], ◌∷◌, ◌++◌, Option, None, Some, refl, sym, ap, length, append_assoc}
use Rattle.kj_base.specs.declared.outcomes.Outcome.{Outcome}
use Rattle.kj_base.specs.Commands.{Action}
use Rattle.kj_base.specs.Record.{Item, Run, Free}
use Rattle.kj_model.specs.Log.{passing}
use Rattle.promise_walks.specs.Values.{Answer, Agrees}

-- what the run at this place gave; where no run is told, this
action_at : Option Action → ℕ → List Item → Option Action
action_at after k [] = after
action_at after zero (Run n step input action ∷ items) = Some action
action_at after zero (Free n ∷ items) = after
action_at after (suc k) (item ∷ items) = action_at after k items

-- each run gives what stands at its place in this record, and after it this
pub told_answer : Option Action → List Item → Answer
told_answer after whole past step = action_at after (length past) whole

at_front : (after : Option Action) (front items : List Item) (n step : ℕ) (input : Outcome) (action : Action) → action_at after (length front) (front ++ Run n step input action ∷ items) ≡ Some action
unfolding action_at
at_front after [] items n step input action = refl
at_front after (x ∷ front) items n step input action = at_front after front items n step input action

agrees_from : (after : Option Action) (whole front items : List Item) → whole ≡ front ++ items → Agrees (told_answer after whole) front items
unfolding told_answer
agrees_from after whole front [] e = tt
agrees_from after whole front (Run n step input action ∷ items) e = (
  ap (action_at after (length front)) e ∙ at_front after front items n step input action,
  agrees_from after whole (front ++ Run n step input action ∷ []) items (e ∙ sym (append_assoc front (Run n step input action ∷ []) items)),
)
agrees_from after whole front (Free n ∷ items) e = agrees_from after whole (front ++ Free n ∷ []) items (e ∙ sym (append_assoc front (Free n ∷ []) items))

-- they agree with it
pub told_agrees : (after : Option Action) (past items : List Item) → Agrees (told_answer after (past ++ items)) past items
told_agrees after past items = agrees_from after (past ++ items) past items refl

-- none is given at its end
at_end : (items : List Item) → action_at None (length items) items ≡ None
unfolding action_at
at_end [] = refl
at_end (x ∷ items) = at_end items

pub told_end : (whole : List Item) (step : ℕ) → told_answer None whole whole step ≡ None
unfolding told_answer
told_end whole step = at_end whole

-- or there is always one
always_some : (k : ℕ) (items : List Item) → action_at (Some passing) k items ≡ None → ⊥
unfolding action_at
always_some k [] e = cc
always_some zero (Run n step input action ∷ items) e = cc
always_some zero (Free n ∷ items) e = cc
always_some (suc k) (item ∷ items) e = always_some k items e

pub told_always : (whole past : List Item) (step : ℕ) → told_answer (Some passing) whole past step ≡ None → ⊥
unfolding told_answer
told_always whole past step e = always_some (length past) whole e
