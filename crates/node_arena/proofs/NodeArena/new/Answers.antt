use Rattle.std.proofs.Common.{arith, refl}
use Rattle.node_arena.proofs.Freed.{kept_new, stands_new, no_node}
use Rattle.node_arena.proofs.NodeArena.new.Goals as goal

pub invariant_of-result : goal.invariant_of-result
invariant_of-result c = kept_new _ c.args.slots c.in_ok-cells.ensures.free c.in_ok-cells.ensures.size c.requires (omega arith) c.in_ok-free.ensures.numbers c.in_ok-free.ensures.room refl

pub returns-clause-empty : goal.returns-clause-empty
returns-clause-empty c = stands_new _ _ c.args.slots c.in_ok-cells.ensures.free c.in_ok-cells.ensures.size c.in_ok-free.ensures.numbers

pub returns-clause-no_nodes : goal.returns-clause-no_nodes
returns-clause-no_nodes c = λ slot. no_node _ (c.in_ok-cells.ensures.free slot)
