use Rattle.std.proofs.Common.{◌≡◌, ◌≤◌, ◌+◌, ◌++◌, ℕ, List, [], vec_len, vec_capacity}
use Rattle.kj_model.specs.World.{World}
use Rattle.kj_model.specs.Free.{Holding}
use Rattle.kj_model.specs.Falling.{falling}
use Rattle.promise_walks.specs.Stacks.{weigh}
use Rattle.promise_walks.specs.Falls.{AreMarks, Leads, Stays, known}
use Rattle.promise_walks.proofs.falling.mark_tree.Given as goal

abbrev pub invariant-looking : goal.invariant-looking
invariant-looking g l =
    let d = g.N.Nodes.slots l.fn.nodes + 1 in
    record {
      leads : (w : World) (gone : List ℕ) → g.N.Nodes.stands l.fn.nodes w → AreMarks (g.N.Nodes.marks l.fn.nodes) [] gone → Leads w d (g.N.Nodes.marks l.nodes) l.frames.items (gone ++ falling (Holding []) w d [] gone l.fn.root.number.0);
      stands : (w : World) → g.N.Nodes.stands l.fn.nodes w → g.N.Nodes.stands l.nodes w;
      stays : Stays (known (g.N.Nodes.is_taken l.fn.nodes) (g.N.Nodes.is_listed l.fn.nodes) (g.N.Nodes.is_plain l.fn.nodes) (g.N.Nodes.room l.fn.nodes) (g.N.Nodes.next l.fn.nodes) (g.N.Nodes.slots l.fn.nodes)) (known (g.N.Nodes.is_taken l.nodes) (g.N.Nodes.is_listed l.nodes) (g.N.Nodes.is_plain l.nodes) (g.N.Nodes.room l.nodes) (g.N.Nodes.next l.nodes) (g.N.Nodes.slots l.nodes));
      slots : g.N.Nodes.slots l.nodes ≡ g.N.Nodes.slots l.fn.nodes;
      bound : vec_len l.frames ≤ d;
      room : d ≤ vec_capacity l.frames;
      more : vec_capacity l.fn.frames ≤ vec_capacity l.frames;
    }

abbrev pub decreases-looking : goal.decreases-looking
decreases-looking g l = weigh (g.N.Nodes.slots l.fn.nodes + 1) l.frames.items
