use Rattle.std.proofs.Common.{◌≡◌}
use Rattle.kj_model.specs.Outcomes.{joined}
use Rattle.kj_model.specs.World.{World}
use Rattle.kj_model.specs.Value.{kept_in}
use Rattle.promise_walks.specs.Shapes.{numbers_of}
use Rattle.promise_walks.proofs.Summed.{total_after}
use Rattle.promise_walks.proofs.joining.join_kept.Given as goal

abbrev pub invariant-joining : goal.invariant-joining
invariant-joining g l = record {
  same : (w : World) → g.L.Land.stands l.land w → joined (kept_in w.nodes (numbers_of l.fn.sides)) ≡ total_after l.sum (kept_in w.nodes (numbers_of l.left));
}

abbrev pub decreases-joining : goal.decreases-joining
decreases-joining g l = l.left.count
