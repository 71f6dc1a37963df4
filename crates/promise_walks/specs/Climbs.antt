-- The stack of an evaluation, in place of recursion.
use Rattle.std.specs.Prelude.{◌≡◌, ℕ, zero, suc, ◌+◌, ◌*◌, ◌-◌, List, [], ◌∷◌, ◌++◌, Some, Bool, true, false, length, Result, Ok, Err}
use Rattle.std.specs.List.{AllByRecursion}
use Rattle.kj_base.specs.Commands.{step_of}
use Rattle.kj_base.specs.declared.nodes.Link.{Link}
use Rattle.kj_base.specs.declared.outcomes.Outcome.{Outcome}
use Rattle.kj_model.specs.Nodes.{Side, Fired, form_at}
use Rattle.kj_model.specs.World.{State, Setting}
use Rattle.kj_model.specs.Value.{value_side, value_to, then_valued, side_valued, outcome_given, rest_valued}
use Rattle.promise_walks.specs.declared.shape.Parts.{Parts}
use Rattle.promise_walks.specs.declared.sums.Sum.{Sum}
use Rattle.promise_walks.specs.declared.pending.Pending.{Pending}
use Rattle.promise_walks.specs.declared.pending.Pending.TheVariants.{Then, Won, Part}
use Rattle.promise_walks.specs.declared.pending.At.{At}
use Rattle.promise_walks.specs.declared.pending.At.TheVariants.{Down, Up}
use Rattle.promise_walks.specs.Shapes.{numbers_of}
use Rattle.promise_walks.specs.Sums.{plus, total}
use Rattle.promise_walks.specs.Values.{Valued, Valuing}

-- the Sides of a join, all of them, after those that gave the sum
abbrev pub all_summed : Valuing → Sum → List ℕ → State → Valued Outcome
all_summed value sum [] s = (s, Some (total sum))
all_summed value sum (side ∷ sides) s = let r = value_side value side s in rest_valued r.1 (λ o. all_summed value (plus sum o) sides) r.0

-- the stack when one Side was taken: as it was, or with this Side
abbrev pub stack_taken : List Pending → Sum → Link → Parts → Result Sum Link → List Pending
stack_taken stack sum side behind (Ok more) = stack
stack_taken stack sum side behind (Err tree) = stack ++ Part side tree behind sum ∷ []

-- its outcome joined the sum, or its tree is evaluated first
abbrev pub IsTaken : Valuing → State → Sum → Link → Parts → Result Sum Link → Type 0
IsTaken value s sum side behind (Ok more) = all_summed value sum (side.number.0 ∷ numbers_of behind) s ≡ all_summed value more (numbers_of behind) s
IsTaken value s sum side behind (Err tree) = form_at side.number.0 s.world.nodes ≡ Some (Side (Fired tree.number.0))

-- what a node does with what its tree gave; trees below it are no deeper than k
abbrev pub closed : Setting → ℕ → Pending → Valued Outcome → Valued Outcome
closed setting k (Then then) r = outcome_given (then_valued setting false then.node.number.0 (step_of then.value) (step_of then.error) then.tree.number.0 r.1 r.0)
closed setting k (Won side tree) r = side_valued side.number.0 tree.number.0 r.1 r.0
closed setting k (Part side tree behind sum) r = let q = side_valued side.number.0 tree.number.0 r.1 r.0 in rest_valued q.1 (λ o. all_summed (value_to setting k) (plus sum o) (numbers_of behind)) q.0

-- what all nodes on the stack do with it, the last first
abbrev pub climb : Setting → ℕ → List Pending → Valued Outcome → Valued Outcome
climb setting k [] r = r
climb setting zero (f ∷ fs) r = r
climb setting (suc k) (f ∷ fs) r = closed setting k f (climb setting k fs r)

-- what is still to come
abbrev pub is_at : Setting → ℕ → List Pending → At → State → Valued Outcome
is_at setting d fs (Down node) s = climb setting d fs (value_to setting (d - length fs) node.number.0 s)
is_at setting d fs (Up outcome) s = climb setting d fs (s, Some outcome)

-- the node or the Side that is turned to again
abbrev pub node_of : Pending → ℕ
node_of (Then then) = then.node.number.0
node_of (Won side tree) = side.number.0
node_of (Part side tree behind sum) = side.number.0

-- all of them are plain
abbrev pub ArePlain : (ℕ → Bool) → List Pending → Type 0
ArePlain is_plain fs = AllByRecursion (λ (f : Pending). is_plain (node_of f) ≡ true) fs

-- no evaluation of a tree of this depth has more turns
abbrev pub cost : ℕ → ℕ
cost zero = 1
cost (suc k) = 300 + 255 * cost k

-- how many turns come when a node on the stack goes on
abbrev pub pending_weight : ℕ → Pending → ℕ
pending_weight k (Then then) = 1
pending_weight k (Won side tree) = 1
pending_weight k (Part side tree behind sum) = 1 + behind.count * (cost k + 1)

-- the same for all of them
abbrev pub weigh : ℕ → List Pending → ℕ
weigh k [] = 0
weigh zero (f ∷ fs) = 0
weigh (suc k) (f ∷ fs) = pending_weight k f + weigh k fs

-- how many turns come before the stack is turned to
abbrev pub weigh_at : ℕ → At → ℕ
weigh_at k (Down node) = cost k
weigh_at k (Up outcome) = 0
