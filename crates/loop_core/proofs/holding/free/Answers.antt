use Rattle.std.proofs.Common.{arith}
use Rattle.loop_core.proofs.Held.{free_falls, free_same}
use Rattle.loop_core.proofs.holding.free.Goals as goal

pub free_part-requires : goal.free_part-requires
free_part-requires g c = record { stack_room = c.ground.invariant.frames; room = c.ground.invariant.search }

pub invariant_of-ground : goal.invariant_of-ground
invariant_of-ground g c =
    let ready = c.ground.invariant in
    let e = c.free_part.ensures in
    record {
      free = free_falls _ _ _ _ _ (free_same _ _ _ _ ready.free e.roots) e.taken e.next;
      few = omega (arith, ready.few, e.count, e.limit);
      frames = omega (arith, ready.frames, e.slots, e.stack_room);
      search = omega (arith, ready.search, e.slots, e.room);
    }
