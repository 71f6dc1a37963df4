-- Names of a tree and of the table that it is seen as.
use Rattle.std.proofs.Common.{◌≡◌, ◌≤◌, Option, None, Some, refl, subst, arith}
use Rattle.std.specs.Prelude.{IsSome}
use Rattle.promise_names.specs.Held.{root_of}
use Rattle.promise_names.specs.declared.names.Held.{Held}
use Rattle.promise_names.specs.declared.names.Awaited.{Awaited}
use Rattle.name_table.specs.Table.{held_count}
use Rattle.name_tree.specs.declared.cut.Cut.{Cut}
use Rattle.name_tree.specs.declared.tree.Tree.{Tree}
use Rattle.name_tree.specs.Trees.{IsSplit}

-- a name that has a root is there
pub some_held : (o : Option Held) → IsSome (root_of o) → IsSome o
some_held None some = absurd cc
some_held (Some held) some = refl

-- a tree is divided at the cut that it was divided at
pub split_still : (t : Tree Held) (old new : Cut) → new ≡ old → IsSplit new.at new.step t → IsSplit old.at old.step t
split_still t old new is split = subst (λ (cut : Cut). IsSplit cut.at cut.step t) is split

-- one promise is awaited at most
pub held_few : (a : Option Awaited) → held_count a ≤ 1
held_few None = omega arith
held_few (Some a) = omega arith
