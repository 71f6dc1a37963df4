use Rattle.std.proofs.Common.{◌≡◌, map, take}
use Rattle.kj_base.specs.Record.{Free}
use Rattle.promise_commands.specs.Telling.{Hears}
use Rattle.loop_core.specs.Frees.{numbers_of}
use Rattle.loop_core.proofs.closing.tell_frees.Given as goal

abbrev pub invariant-loop-node : goal.invariant-loop-node
invariant-loop-node g l =
    record {
      told : Hears (g.S.Steps.told l.fn.steps) (map Free (numbers_of (take l.node-index l.freed))) (g.S.Steps.told l.steps);
      lacks : g.S.Steps.lacks l.steps ≡ g.S.Steps.lacks l.fn.steps;
    }
