use Rattle.std.proofs.Common.{◌≡◌, ◌≤◌, ◌+◌, vec_capacity}
use Rattle.kj_model.specs.World.{World}
use Rattle.promise_nodes.specs.Kept.{AreUnmarked}
use Rattle.promise_nodes.specs.Members.{lists_in}
use Rattle.promise_nodes.specs.Shown.{link_number}
use Rattle.promise_walks.specs.Falls.{HaveFallen, Stays, known}
use Rattle.promise_walks.proofs.falling.mark_members.Given as goal

abbrev pub invariant-falling : goal.invariant-falling
invariant-falling g l =
    let d = g.N.Nodes.slots l.fn.nodes + 1 in
    record {
      falls : (w : World) → g.N.Nodes.stands l.fn.nodes w → AreUnmarked (g.N.Nodes.marks l.fn.nodes) → HaveFallen w d (g.N.Nodes.marks l.nodes) (lists_in w l.fn.list.0) (link_number l.at) l.left;
      stands : (w : World) → g.N.Nodes.stands l.fn.nodes w → g.N.Nodes.stands l.nodes w;
      stays : Stays (known (g.N.Nodes.is_taken l.fn.nodes) (g.N.Nodes.is_listed l.fn.nodes) (g.N.Nodes.is_plain l.fn.nodes) (g.N.Nodes.room l.fn.nodes) (g.N.Nodes.next l.fn.nodes) (g.N.Nodes.slots l.fn.nodes)) (known (g.N.Nodes.is_taken l.nodes) (g.N.Nodes.is_listed l.nodes) (g.N.Nodes.is_plain l.nodes) (g.N.Nodes.room l.nodes) (g.N.Nodes.next l.nodes) (g.N.Nodes.slots l.nodes));
      slots : g.N.Nodes.slots l.nodes ≡ g.N.Nodes.slots l.fn.nodes;
      room : d ≤ vec_capacity l.frames;
      more : vec_capacity l.fn.frames ≤ vec_capacity l.frames;
    }

abbrev pub decreases-falling : goal.decreases-falling
decreases-falling g l = l.left
