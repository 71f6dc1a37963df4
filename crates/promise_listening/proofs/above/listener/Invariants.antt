use Rattle.std.proofs.Common.{◌≡◌, ◌+◌}
use Rattle.kj_model.specs.World.{World}
use Rattle.kj_model.specs.Listening.{listener_from}
use Rattle.promise_nodes.specs.Kept.{IsLive}
use Rattle.promise_listening.proofs.above.listener.Given as goal

abbrev pub invariant-up : goal.invariant-up
invariant-up g l = record {
  climbed : (w : World) → g.N.Nodes.stands l.nodes w → IsLive w l.fn.node.number.0 → listener_from (g.N.Nodes.slots l.nodes + 1) w l.fn.node.number.0 ≡ listener_from l.left w l.at.number.0;
  live : (w : World) → g.N.Nodes.stands l.nodes w → IsLive w l.fn.node.number.0 → IsLive w l.at.number.0;
}

abbrev pub decreases-up : goal.decreases-up
decreases-up g l = l.left
