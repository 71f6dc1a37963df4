-- The states that a loop stands at.
use Rattle.std.specs.Prelude.{◌≡◌, ◌≤◌, ◌+◌, ℕ, List, true, length}
use Rattle.kj_base.specs.Places.{Spot, Row, counts}
use Rattle.kj_model.specs.World.{World, State}
use Rattle.kj_ownership.specs.Kept.{Kept}
use Rattle.promise_walks.specs.Walks.{Both}
use Rattle.promise_walks.specs.Values.{Rule}

-- where rows fit, there are slots for the live nodes and for theirs
abbrev pub TakesNoMore : Rule → Type 0
TakesNoMore rule =
    (slots : ℕ) (spots : List Spot) (rows : List Row)
    → rule slots spots rows ≡ true → length spots + counts rows ≤ slots

-- the store takes no more nodes than it has slots, nodes and names are those of this world, and it keeps what each world
-- keeps between two calls
pub record StandsAt (rule : Rule) (Nodes Names : World → Type 0) (s : State) : Type 0 where
  pub takes : TakesNoMore rule
  pub stands : Both Nodes Names s.world
  pub kept : Kept s
