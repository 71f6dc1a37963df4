-- What steps answer, and whether a record agrees with it.
use Rattle.std.specs.Prelude.{◌≡◌, ℕ, List, [], ◌∷◌, ◌++◌, Option, Some}
use Rattle.kj_base.specs.Commands.{Action}
use Rattle.kj_base.specs.Record.{Item, Run, Free}

-- what the next run of a step gives, from the record so far; none is want of memory
abbrev pub Answer : Type 0
Answer = List Item → ℕ → Option Action

-- the answers are those that the runs among the items had, after this record
abbrev pub Agrees : Answer → List Item → List Item → Type 0
Agrees answer past [] = Unit {0}
Agrees answer past (Run n step input action ∷ items) = (answer past step ≡ Some action) × Agrees answer (past ++ Run n step input action ∷ []) items
Agrees answer past (Free n ∷ items) = Agrees answer (past ++ Free n ∷ []) items
