-- What a map of keys keeps.
use Rattle.std.specs.Prelude.{ℕ, ◌+◌, ◌*◌, ◌<◌, ◌≤◌, IsSome, length, vec_capacity}
use Rattle.name_tree.specs.declared.map.KeyMap.{KeyMap}
use Rattle.name_tree.specs.Cuts.{IsCut}
use Rattle.name_tree.specs.Trees.{value_at, count_of, IsSplit}

-- how many keys there may be
abbrev pub total_of : {V : Type 0} → KeyMap V → ℕ
total_of m = count_of m.tree + length m.spare.items

-- the tree is divided at the cut, which is in the middle of its keys, and there is room for the nodes that aren't used
pub record IsMap {V : Type 0} (m : KeyMap V) : Type 0 where
  pub cut : IsCut m.cut.at m.cut.step
  pub split : IsSplit m.cut.at m.cut.step m.tree
  pub within : (n : ℕ) → IsSome (value_at n m.tree) → n < 2 * m.cut.at
  pub room : total_of m ≤ vec_capacity m.spare
