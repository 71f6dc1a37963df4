-- What steps tell, and what always holds of them.
use Rattle.std.specs.Prelude.{◌≡◌, List, [], ◌∷◌, ◌++◌, IsTrue, Option, None, Some, Bool, true, false, map}
use Rattle.kj_base.specs.Commands.{Action}
use Rattle.kj_base.specs.Record.{Item}
use Rattle.promise_commands.specs.Telling.{Telling, telling}
use Rattle.kj_model.specs.Log.{Body, scripted}
use Rattle.promise_commands.specs.Answers.{Agrees}
use Rattle.promise_commands.specs.Script.{Body as BodyCase}
use Rattle.promise_steps.specs.Order.{InOrder, left_of, IsLeft}
use Rattle.promise_steps.specs.Items.{item_of}
use Rattle.promise_steps.specs.Following.{since}
use Rattle.promise_steps.specs.declared.kept.Kept.{Kept}

-- the bodies of the script
abbrev pub bodies_in : Kept → List BodyCase
bodies_in kept = kept.script.now.bodies

-- the bodies that were still to come at the last printing
abbrev pub begun_of : Kept → List Body
begun_of kept = left_of (bodies_in kept) kept.began.value.items

-- what was told since then
abbrev pub items_of : Kept → List Item
items_of kept = map (item_of (bodies_in kept)) kept.items.items

-- a record, where all of it was kept
abbrev pub told_if : Bool → List Item → Option (List Item)
told_if true items = Some items
told_if false items = None

-- what steps tell
abbrev pub told_by : Kept → Telling
told_by kept = telling (told_if kept.whole (since (begun_of kept) (items_of kept)))

-- what was told is still told, and this action is the given one; or nothing is told any more
abbrev pub IsReadFrom : Option (List Item) → Option (List Item) → Action → Action → Type 0
IsReadFrom before None given action = Unit {0}
IsReadFrom before (Some after) given action = (before ≡ Some after) × (action ≡ given)

abbrev pub IsRead : Telling → Telling → Action → Action → Type 0
IsRead before after given action = IsReadFrom before.items after.items given action

-- where all is kept now, all was kept before, and one item came
abbrev pub Grows : Kept → Kept → Item → Type 0
Grows old new item = IsTrue new.whole → IsTrue old.whole × (items_of new ≡ items_of old ++ item ∷ [])

-- the bodies are in order, and where all was kept, the runs had the bodies of the last printing, and those still to come are left of them
pub record IsKept (kept : Kept) : Type 0 where
  pub in_order : InOrder (bodies_in kept) kept.order.items
  pub agrees : kept.whole ≡ true → Agrees (scripted (begun_of kept)) [] (items_of kept)
  pub is_left : kept.whole ≡ true → IsLeft (left_of (bodies_in kept) kept.order.items) (begun_of kept) (items_of kept)
