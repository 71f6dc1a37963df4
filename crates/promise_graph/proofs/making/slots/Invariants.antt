use Rattle.promise_graph.specs.New.{AreSlots}
use Rattle.promise_graph.proofs.making.slots.Given as goal

abbrev pub invariant-counting : goal.invariant-counting
invariant-counting l = AreSlots l.slots.items l.slot
