-- The record of a loop: what its steps did and which nodes were freed, in order.
use Rattle.std.specs.Prelude.{◌≡◌, ℕ, List, ◌++◌, Option, None, Some}
use Rattle.kj_base.specs.declared.outcomes.Outcome.{Outcome}
use Rattle.kj_base.specs.Commands.{Action}

-- a run of a step under a node, with its input and what it gave; or the free of a node
pub data Item : Type 0 where
  Run : (node step : ℕ) → (input : Outcome) → (action : Action) → Item
  Free : (node : ℕ) → Item

-- where it tells afterwards, it told before, and these items came at the end
abbrev pub Tells : Option (List Item) → List Item → Option (List Item) → Type 0
Tells before items None = Unit {0}
Tells before items (Some after) = (old : List Item) × (before ≡ Some old) × (after ≡ old ++ items)
