use Rattle.std.proofs.Common.{ℕ, List}
use Rattle.kj_model.specs.World.{World}
use Rattle.promise_nodes.specs.Shown.{link_number}
use Rattle.promise_walks.specs.Falls.{AreMarks, AreSeen, is_off}
use Rattle.promise_walks.proofs.falling.are_off.Given as goal

abbrev pub invariant-looking : goal.invariant-looking
invariant-looking g l = record {
  seen : (w : World) (way gone : List ℕ) → g.N.Nodes.stands l.nodes w → AreMarks (g.N.Nodes.marks l.nodes) way gone → AreSeen (is_off way gone) l.hub.number.0 w.nodes (link_number l.at) l.left;
}

abbrev pub decreases-looking : goal.decreases-looking
decreases-looking g l = l.left
