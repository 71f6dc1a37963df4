use Rattle.std.proofs.Common.{arith}
use Rattle.loop_core.proofs.Held.{free_falls}
use Rattle.loop_core.proofs.holding.disarm.Goals as goal

pub invariant_of-ground : goal.invariant_of-ground
invariant_of-ground g c =
    let ready = c.ground.invariant in
    record {
      free = free_falls _ _ _ _ _ ready.free c.disarm.ensures.taken c.disarm.ensures.next;
      few = ready.few;
      frames = omega (arith, ready.frames, c.disarm.ensures.slots);
      search = omega (arith, ready.search, c.disarm.ensures.slots);
    }
