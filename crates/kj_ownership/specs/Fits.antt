-- What is asked of a setting: its store takes no more nodes than it has slots.
use Rattle.std.specs.Prelude.{◌≡◌, ℕ, ◌+◌, ◌≤◌, List, true, length}
use Rattle.kj_base.specs.Places.{Spot, Row, counts}
use Rattle.kj_model.specs.World.{Setting}

-- where rows fit, there are slots for the live nodes and for theirs
abbrev pub Fits : Setting → Type 0
Fits setting = (slots : ℕ) (spots : List Spot) (rows : List Row) → setting.fits slots spots rows ≡ true → length spots + counts rows ≤ slots
