-- A run of a step, told with what it gives.
use Rattle.std.proofs.Common.{◌≡◌, ◌∙◌, sym, ap, refl, ℕ, List, [], ◌∷◌, ◌++◌, Option, None, Some, Bool, append_assoc}
use Rattle.std.proofs.lemmas.List.{append-nil}
use Rattle.kj_base.specs.declared.outcomes.Outcome.{Outcome}
use Rattle.kj_base.specs.Commands.{Action}
use Rattle.kj_base.specs.Record.{Item, Run}
use Rattle.promise_commands.specs.Telling.{Telling, Hears}
use Rattle.kj_model.specs.World.{World, State, Setting}
use Rattle.kj_model.specs.Changes.{silent}
use Rattle.kj_model.specs.Value.{Given, acted, answered, run_step, some_given, with_item, with_stopped}
use Rattle.promise_walks.specs.Values.{Rule, Answer, Lacks, Walked, gave, setting_of}
use Rattle.promise_walks.proofs.Composed.{hears_then}
use Rattle.promise_eval.specs.Done.{Did}

-- the step of an action comes before what its commands free
run_first : (past items : List Item) (item : Item) → (past ++ item ∷ []) ++ items ≡ past ++ item ∷ items
run_first past items item = append_assoc past (item ∷ []) items

-- a step found its memory, and its action was carried out
pub ran : (Old New : World → Type 0) (rule : Rule) (under_chain : Bool) (n step : ℕ) (input : Outcome) (action : Action) (given : Given) (a b c : Telling)
    → Hears a (Run n step input action ∷ []) b
    → Did Old New rule (λ setting s. acted setting action under_chain input s) (λ setting s. (s, given)) b c
    → Walked Old New rule (λ setting s. run_step setting under_chain n step input s) (gave given) a c
ran Old New rule under_chain n step input action given a b c told act = record {
  items = Run n step input action ∷ act.items;
  told = hears_then a b c (Run n step input action ∷ []) act.items told act.told;
  goes = λ answer s old agrees.
      let setting : Setting = setting_of rule answer in
      let t : State = with_item (Run n step input action) s in
      let done = act.moves answer t old in
      record {
        state = done.state;
        stands = done.stands;
        past_is = done.past_is ∙ append_assoc s.past (Run n step input action ∷ []) act.items;
        ends = ap some_given done.ends ∙ sym (ap (λ (o : Option Action). answered setting o under_chain n step input s) agrees.0);
      };
}

-- a step found no memory, and the loop is stopped
pub lacked : (Old New : World → Type 0) (rule : Rule) (under_chain : Bool) (n step : ℕ) (input : Outcome)
    → ((w : World) → Old w → New (with_stopped w))
    → Lacks Old New rule (λ setting s. run_step setting under_chain n step input s) []
lacked Old New rule under_chain n step input stop = record {
  step = step;
  moves = λ answer s old agrees none.
      let setting : Setting = setting_of rule answer in
      let here : answer s.past step ≡ None = ap (λ (past : List Item). answer past step) (sym (append-nil s.past)) ∙ none in
      record {
        state = silent with_stopped s;
        stands = stop s.world old;
        past_is = sym (append-nil s.past);
        ends = sym (ap (λ (a : Option Action). answered setting a under_chain n step input s) here);
      };
}
