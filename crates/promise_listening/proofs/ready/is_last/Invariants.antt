use Rattle.std.proofs.Common.{◌≡◌, ◌+◌}
use Rattle.kj_model.specs.World.{World}
use Rattle.kj_model.specs.Listening.{is_last}
use Rattle.promise_listening.proofs.ready.is_last.Given as goal

abbrev pub invariant-down : goal.invariant-down
invariant-down g l = (w : World) → g.N.Nodes.stands l.nodes w → is_last (g.N.Nodes.slots l.nodes + 1) w.nodes l.fn.root.number.0 ≡ is_last l.left w.nodes l.at.number.0

abbrev pub decreases-down : goal.decreases-down
decreases-down g l = l.left
