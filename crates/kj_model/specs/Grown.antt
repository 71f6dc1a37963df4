-- Records that were added to.
use Rattle.std.specs.Prelude.{◌≡◌, List, ◌++◌}
use Rattle.kj_model.specs.World.{State}
use Rattle.kj_base.specs.Record.{Item}

-- the record of one state begins with that of the other
abbrev pub Grows : State → State → Type 0
Grows old new = (more : List Item) × (new.past ≡ old.past ++ more)
