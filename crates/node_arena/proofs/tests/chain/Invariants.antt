-- The node that was placed last is bare.
use Rattle.kj_base.specs.Store.{IsBareOrNone, slot_number}
use Rattle.node_arena.specs.Arenas.{is_bare}
use Rattle.node_arena.proofs.tests.chain.Given as goal

abbrev pub invariant-loop-number : goal.invariant-loop-number
invariant-loop-number l = IsBareOrNone (is_bare l.arenas) (slot_number l.last)
