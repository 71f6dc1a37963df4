-- Rows before different nodes, and stores that count the slots too.
use Rattle.std.specs.Prelude.{◌≡◌, ◌&&◌, ℕ, ◌≤◌, List, [], ◌∷◌, Option, None, Some, Bool, false, ◌<◌}
use Rattle.kj_base.specs.Commands.{Action}
use Rattle.kj_base.specs.Places.{Spot, Row, spot_of, arenas_fit, table_fits}
use Rattle.kj_base.specs.Record.{Item}
use Rattle.kj_base.specs.Store.{is_named}
use Rattle.kj_model.specs.World.{World, Setting}

-- no live node has a lesser place of that one's arena
abbrev pub IsFirst : Spot → World → Type 0
IsFirst x w = (m : ℕ) (y : Spot) → spot_of m w.spots ≡ Some y → y.key ≡ x.key → y.place < x.place → ⊥

-- a row goes anew, or before a node that, where it lives, is the first of its arena, and before
-- which no other of these rows goes
abbrev pub GoesAlone : World → Option ℕ → List Row → Type 0
GoesAlone w None others = Unit {0}
GoesAlone w (Some n) others =
    (x : Spot) → spot_of n w.spots ≡ Some x → IsFirst x w × (is_named n others ≡ false)

-- rows of at most eight nodes each, before different nodes that are first in their arenas, or anew
abbrev pub GoApart : World → List Row → Type 0
GoApart w [] = Unit {0}
GoApart w (r ∷ rows) = (r.count ≤ 8) × GoesAlone w r.before rows × GoApart w rows

-- arenas, in which the slots are counted too
abbrev pub counted_fit : ℕ → List Spot → List Row → Bool
counted_fit slots spots rows = arenas_fit slots spots rows && table_fits slots spots rows

-- steps over a store that fits so
abbrev pub over_store : (ℕ → List Spot → List Row → Bool) → (List Item → ℕ → Option Action) → Setting
over_store fits answer = record { fits = fits; answer = answer }
