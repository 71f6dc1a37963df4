use Rattle.std.proofs.Common.{arith}
use Rattle.loop_core.proofs.Held.{free_held}
use Rattle.promise_tests.proofs.closings.hold.Goals as goal

pub invariant_of-over-inside-2 : goal.invariant_of-over-inside-2
invariant_of-over-inside-2 c =
    let ready = c.over-inside.invariant in
    record {
      free = free_held _ _ _ _ c.args.name _ ready.free c.set.ensures.root c.requires.no_root;
      few = omega (arith, c.set.ensures.few, c.set.ensures.limit, c.if-len-limit.false, c.len.ensures.awaited, c.limit.ensures, c.from-limit.ensures);
      frames = ready.frames;
      search = ready.search;
    }
