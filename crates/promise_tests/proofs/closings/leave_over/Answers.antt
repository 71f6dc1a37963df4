use Rattle.std.proofs.Common.{arith}
use Rattle.loop_core.proofs.Held.{free_gone, free_same}
use Rattle.promise_tests.proofs.closings.leave_over.Goals as goal

pub invariant_of-over-inside : goal.invariant_of-over-inside
invariant_of-over-inside c =
    let ready = c.over-inside.invariant in
    record {
      free = free_same _ _ _ _ (free_gone _ _ _ _ c.args.name ready.free c.remove.ensures.root) c.leave_over.ensures.roots;
      few = omega (arith, ready.few, c.remove.ensures.few, c.remove.ensures.limit, c.leave_over.ensures.count, c.leave_over.ensures.limit);
      frames = ready.frames;
      search = ready.search;
    }
