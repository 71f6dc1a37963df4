-- How deep a tree is.
use Rattle.std.specs.Prelude.{ℕ, ◌+◌, max}
use Rattle.name_tree.specs.declared.tree.Tree.{Tree}
use Rattle.name_tree.specs.declared.tree.Tree.TheVariants.{Empty, Fork'}

-- how many nodes one looks at, at most
abbrev pub depth_of : {V : Type 0} → Tree V → ℕ
depth_of Empty = 0
depth_of (Fork' p key value low high) = 1 + max (depth_of low) (depth_of high)
