-- Steps that count as a record does, by what they tell.
use Rattle.std.specs.Prelude.{◌≡◌, ℕ, List, [], ◌∷◌, ◌++◌, Option, Some, map}
use Rattle.kj_base.specs.Record.{Item, Run, Free}
use Rattle.promise_commands.specs.Telling.{Telling, Hears}
use Rattle.kj_base.specs.declared.outcomes.Outcome.TheVariants.{Value}
use Rattle.kj_model.specs.Log.{Body, scripted, Told as ToldLine}
use Rattle.kj_model.specs.Text.{log_text}
use Rattle.promise_commands.specs.Answers.{Agrees}
use Rattle.promise_steps.specs.Order.{IsLeft}

-- a body that was still to come at the last printing, as an item that no loop tells
abbrev pub coming : Body → Item
coming b = Run 0 b.step (Value []) b.action

-- what is told: the bodies that were still to come at the last printing, a mark, and the items since then. A loop adds
-- items only at the end, so it tells its caller that all that stands before them is still the same
abbrev pub since : List Body → List Item → List Item
since left items = map coming left ++ Free 0 ∷ items

-- nothing was told since the last printing, and the bodies still to come are those after this record
pub record Follows (bodies : List Body) (past : List Item) (told : Telling) : Type 0 where
  pub left : List Body
  pub told_is : told.items ≡ Some (since left [])
  pub is_left : IsLeft left bodies past

-- these items are as the bodies answer after this record; now the steps follow them too, and the text grew by their lines
pub record Printed (bodies : List Body) (past items : List Item) (told : Telling) (old new : List ℕ) : Type 0 where
  pub agrees : Agrees (scripted bodies) past items
  pub follows : Follows bodies (past ++ items) told
  pub text : new ≡ old ++ log_text (map ToldLine items)

-- a printing: whatever record the steps followed at the last one, and whatever items were told since
abbrev pub Prints : Telling → Telling → List ℕ → List ℕ → Type 0
Prints before after old new =
    (bodies : List Body) (past items : List Item) (last : Telling)
    → Follows bodies past last → Hears last items before → Printed bodies past items after old new
