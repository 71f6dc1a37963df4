use Rattle.std.proofs.Common.{◌≡◌}
use Rattle.kj_model.specs.World.{World}
use Rattle.promise_nodes.specs.Kept.{OnlyFalls, OnlyRises}
use Rattle.promise_nodes.specs.Shown.{link_number}
use Rattle.promise_firing.specs.Left.{AreLeft}
use Rattle.promise_firing.specs.Outliving.{BranchesLive}
use Rattle.promise_firing.proofs.branches.announce_branches.Given as goal

abbrev pub invariant-announcing : goal.invariant-announcing
invariant-announcing g l = record {
  left : (w : World) → g.N.Nodes.stands l.fn.nodes w → BranchesLive l.fn.hub.number.0 w → AreLeft (g.N.Nodes.stands l.nodes) l.fn.hub.number.0 w (link_number l.at) l.left;
  taken : OnlyFalls (g.N.Nodes.is_taken l.fn.nodes) (g.N.Nodes.is_taken l.nodes);
  plain : OnlyRises (g.N.Nodes.is_plain l.fn.nodes) (g.N.Nodes.is_plain l.nodes);
  next : g.N.Nodes.next l.nodes ≡ g.N.Nodes.next l.fn.nodes;
  slots : g.N.Nodes.slots l.nodes ≡ g.N.Nodes.slots l.fn.nodes;
}

abbrev pub decreases-announcing : goal.decreases-announcing
decreases-announcing g l = l.left
