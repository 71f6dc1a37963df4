-- Sources with their trees, and what waits for several of them.
use Rattle.std.specs.Prelude.{◌≡◌, ℕ, ◌+◌, List, [], ◌∷◌, ◌++◌, Option, None, Some, Bool, true, false, not, ◌&&◌, is_some, map}
use Rattle.kj_base.specs.Places.{Row, row}
use Rattle.kj_model.specs.Nodes.{Form, Race as RaceForm, Join, is_in}
use Rattle.kj_model.specs.World.{World, Promise, held_at}
use Rattle.kj_model.specs.Effects.{leaf_built, sides_built, each_listened, trees_named, numbers_from}
use Rattle.promise_apply.specs.declared.sources.Source.{Source}
use Rattle.promise_apply.specs.declared.joining.Joined.{Joined}
use Rattle.promise_apply.specs.declared.joining.Joined.TheVariants.{Race, All, Fast}

-- their names
abbrev pub source_names : List Source → List ℕ
source_names sources = map (λ (s : Source). s.name.0) sources

-- their trees
abbrev pub source_trees : List Source → List ℕ
source_trees sources = map (λ (s : Source). s.root.number.0) sources

-- each is a promise of its tree, and none is named twice
abbrev pub AreSources : (ℕ → Option ℕ) → List Source → Type 0
AreSources roots [] = Unit {0}
AreSources roots (s ∷ ss) = (roots s.name.0 ≡ Some s.root.number.0) × (is_in s.name.0 (source_names ss) ≡ false) × AreSources roots ss

-- whether each name promises a tree, and none is named twice or was named before
abbrev pub are_sources : (ℕ → Option ℕ) → List ℕ → List ℕ → Bool
are_sources roots before [] = true
are_sources roots before (s ∷ ss) = not (is_in s before) && (is_some (roots s) && are_sources roots (before ++ s ∷ []) ss)

-- the same in a world
abbrev pub AreHeld : List Source → World → Type 0
AreHeld [] w = Unit {0}
AreHeld (s ∷ ss) w = (held_at s.name.0 w.names ≡ Some (Promise s.root.number.0)) × AreHeld ss w

-- a row before each tree
abbrev pub rows_before : (ℕ → Option ℕ) → List ℕ → List Row
rows_before roots sources = map (λ (n : ℕ). row (roots n) 1) sources

-- a row before each tree
abbrev pub tree_rows : List ℕ → List Row
tree_rows trees = map (λ (n : ℕ). row (Some n) 1) trees

-- the node over Sides with these numbers, as many as there are sources
abbrev pub joined_form : Joined → ℕ → List ℕ → Form
joined_form Race first sources = RaceForm first (first + 1) None
joined_form All first sources = Join false (numbers_from first sources)
joined_form Fast first sources = Join true (numbers_from first sources)

-- a race has two sources
abbrev pub FitsJoined : Joined → ℕ → Type 0
FitsJoined Race count = count ≡ 2
FitsJoined other count = Unit {0}

-- a Side for each source, the node over them, which the name promises; the Sides listen
abbrev pub joined_built : Joined → ℕ → List ℕ → World → World
joined_built kind name sources w = each_listened (trees_named sources w) (leaf_built name (joined_form kind w.next sources) (sides_built sources w))
