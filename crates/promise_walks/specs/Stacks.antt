-- Stacks in place of recursion.
use Rattle.std.specs.Prelude.{◌≡◌, ℕ, zero, suc, ◌+◌, ◌*◌, List, [], ◌∷◌, Bool, true, false, ◌||◌}
use Rattle.std.specs.List.{list_any, AllByRecursion}
use Rattle.kj_model.specs.Nodes.{Entry, holds}
use Rattle.kj_model.specs.World.{World, State}
use Rattle.kj_model.specs.Changes.{gone}
use Rattle.kj_model.specs.Free.{Guard, free_to, each_freed}
use Rattle.promise_walks.specs.declared.shape.Parts.{Parts}
use Rattle.promise_walks.specs.declared.freeing.Frame.{Frame}
use Rattle.promise_walks.specs.Shapes.{numbers_of}
use Rattle.promise_walks.specs.Walks.{Moves, left_as}

-- how many hubs go with a branch
abbrev pub falls_count : Bool → Bool → ℕ
falls_count false is_kept = 0
falls_count true true = 0
falls_count true false = 1

-- what is still to do for a node: the parts that are left, and the node; no tree below it is deeper than k
abbrev pub rest : Guard → ℕ → Frame → State → State
rest guard k f s = gone f.node.number.0 (left_as f.node.number.0 f.leaving (each_freed (free_to guard k) (numbers_of f.parts) s))

-- what is still to do for all nodes on the stack, the last first
abbrev pub finish : Guard → ℕ → List Frame → State → State
finish guard k [] s = s
finish guard zero (f ∷ fs) s = s
finish guard (suc k) (f ∷ fs) s = rest guard k f (finish guard k fs s)

-- a node is entered: what is to do for it is the free of its tree
abbrev pub Enters : (World → Type 0) → (World → Type 0) → Guard → ℕ → Frame → Type 0
Enters Old New guard n frame = (k : ℕ) → Moves Old New (free_to guard (suc k) n) (rest guard k frame) []

-- no node on the stack is listed
abbrev pub AreUnlisted : (ℕ → Bool) → List Frame → Type 0
AreUnlisted is_listed fs = AllByRecursion (λ (f : Frame). is_listed f.node.number.0 ≡ false) fs

-- no way to a node and back is longer
abbrev pub cost : ℕ → ℕ
cost zero = 1
cost (suc k) = 2 + 255 * cost k

-- no way through what is still to do is longer
abbrev pub weigh : ℕ → List Frame → ℕ
weigh k [] = 0
weigh zero (f ∷ fs) = 0
weigh (suc k) (f ∷ fs) = (1 + f.parts.count * cost k) + weigh k fs

-- whether what is still to be searched holds the node
abbrev pub seek : List Entry → ℕ → ℕ → List Parts → Bool
seek nodes n k [] = false
seek nodes n zero (x ∷ xs) = false
seek nodes n (suc k) (x ∷ xs) = seek nodes n k xs || list_any (holds k nodes n) (numbers_of x)

-- no way through what is still to be searched is longer
abbrev pub weigh_parts : ℕ → List Parts → ℕ
weigh_parts k [] = 0
weigh_parts zero (x ∷ xs) = 0
weigh_parts (suc k) (x ∷ xs) = (1 + x.count * cost k) + weigh_parts k xs
