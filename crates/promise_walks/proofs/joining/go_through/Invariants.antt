use Rattle.std.proofs.Common.{◌≡◌, ◌≤◌, vec_capacity}
use Rattle.kj_model.specs.World.{State}
use Rattle.promise_walks.specs.Shapes.{numbers_of}
use Rattle.promise_walks.specs.Values.{Valuing}
use Rattle.promise_walks.specs.Climbs.{ArePlain, all_summed}
use Rattle.promise_walks.proofs.joining.go_through.Given as goal

abbrev pub invariant-through : goal.invariant-through
invariant-through g l = record {
  items : l.stack.items ≡ l.fn.stack.items;
  plain : ArePlain (g.L.Land.is_plain l.land) l.stack.items;
  room : vec_capacity l.fn.stack ≤ vec_capacity l.stack;
  left : l.left.count ≤ l.fn.sides.count;
  same : (value : Valuing) (s : State) → g.L.Land.stands l.land s.world → all_summed value l.fn.sum (numbers_of l.fn.sides) s ≡ all_summed value l.sum (numbers_of l.left) s;
}

abbrev pub decreases-through : goal.decreases-through
decreases-through g l = l.left.count
