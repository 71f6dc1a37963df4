-- What is left of a tree where a node is taken off.
use Rattle.std.specs.Prelude.{◌≡◌, ℕ, ◌+◌, Option, None, Some}
use Rattle.std.specs.declared.alloc.Global.{Global}
use Rattle.std.specs.declared.boxed.Box.{Box}
use Rattle.name_tree.specs.declared.tree.Tree.{Tree}
use Rattle.name_tree.specs.declared.tree.Node.{Node}
use Rattle.name_tree.specs.declared.tree.Tree.TheVariants.{Empty, Fork'}
use Rattle.name_tree.specs.Trees.{value_at, count_of, IsSplit, IsSetAt}

-- nothing is below its node
abbrev pub IsAlone : {V : Type 0} → Tree V → Type 0
IsAlone Empty = Unit {0}
IsAlone (Fork' p key value low high) = (low ≡ Empty) × (high ≡ Empty)

-- in a tree that is divided so, one key is gone that was there with this value
pub record IsLost {V : Type 0} (at step key : ℕ) (value : V) (old new : Tree V) : Type 0 where
  pub there : value_at key old ≡ Some value
  pub gone : IsSetAt key None old new
  pub split : IsSplit at step new

-- one key is gone that was there with this value
pub record HasLost {V : Type 0} (key : ℕ) (value : V) (old new : Tree V) : Type 0 where
  pub count : count_of new + 1 ≡ count_of old
  pub lost : (at step : ℕ) → IsSplit at step old → IsLost at step key value old new

-- no node where the tree is empty, and else one of its nodes
abbrev pub HasLostLeaf : {V : Type 0} → Option (Box (Node V) Global) → Tree V → Tree V → Type 0
HasLostLeaf None old new = (old ≡ Empty) × (new ≡ Empty)
HasLostLeaf (Some leaf) old new = HasLost leaf.value.key leaf.value.value old new

-- the tree with this node at its top
abbrev pub topped : {V : Type 0} → Box (Unit {0}) Global → Node V → Tree V
topped p node = Fork' p node.key node.value node.low node.high

-- nothing is below, and else the key of the node is gone
abbrev pub HasMovedUp : {V : Type 0} → Option (Box (Node V) Global) → Node V → Node V → Type 0
HasMovedUp None old new = (old.low ≡ Empty) × (old.high ≡ Empty) × (new ≡ old)
HasMovedUp (Some leaf) old new = (p q : Box (Unit {0}) Global) → HasLost old.key old.value (topped p old) (topped q new)
