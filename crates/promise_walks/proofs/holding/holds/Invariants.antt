use Rattle.std.proofs.Common.{◌≡◌, ◌≤◌, ◌+◌, vec_len, vec_capacity}
use Rattle.kj_model.specs.World.{World}
use Rattle.kj_model.specs.Nodes.{holds}
use Rattle.promise_walks.specs.Stacks.{seek, weigh_parts}
use Rattle.promise_walks.proofs.holding.holds.Given as goal

abbrev pub invariant-searching : goal.invariant-searching
invariant-searching g l =
    let d = g.N.Nodes.slots l.nodes + 1 in
    record {
      seeks : (w : World) → g.N.Nodes.stands l.nodes w → seek w.nodes l.node.number.0 d l.search.items ≡ holds d w.nodes l.node.number.0 l.fn.root.number.0;
      bound : vec_len l.search ≤ d;
      room : d ≤ vec_capacity l.search;
      more : vec_capacity l.initial.search ≤ vec_capacity l.search;
    }

abbrev pub decreases-searching : goal.decreases-searching
decreases-searching g l = weigh_parts (g.N.Nodes.slots l.nodes + 1) l.search.items
