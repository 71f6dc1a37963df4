-- Names that stand once, and by rising number.
use Rattle.std.specs.Prelude.{◌≡◌, ◌<◌, ℕ, List, [], ◌∷◌, Option, None, Some}
use Rattle.std.specs.List.{AllByRecursion}
use Rattle.kj_model.specs.World.{Named, held_at}

-- no name stands twice
abbrev pub AreOnce : List Named → Type 0
AreOnce [] = Unit {0}
AreOnce (x ∷ xs) = (held_at x.name xs ≡ None) × AreOnce xs

-- each name is lower than those behind it
abbrev pub AreRising : List Named → Type 0
AreRising [] = Unit {0}
AreRising (x ∷ xs) = AllByRecursion (λ (later : Named). x.name < later.name) xs × AreRising xs
