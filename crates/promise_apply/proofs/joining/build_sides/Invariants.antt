use Rattle.std.proofs.Common.{◌≡◌, ◌+◌, ◌≤◌, ◌<◌, ◌++◌, ◌∷◌, [], ℕ, None, false, IsTrue, drop}
use Rattle.kj_base.specs.Places.{row}
use Rattle.kj_model.specs.World.{World}
use Rattle.promise_nodes.specs.Kept.{OnlyRises}
use Rattle.promise_names.specs.Held.{AreFree}
use Rattle.promise_apply.specs.Building.{Both}
use Rattle.promise_apply.specs.Joining.{AreHeld, AreSources, source_trees, tree_rows}
use Rattle.promise_apply.proofs.Sided.{IsSided}
use Rattle.promise_apply.proofs.joining.build_sides.Given as goal

abbrev pub invariant-loop-i : goal.invariant-loop-i
invariant-loop-i g l =
    let n = g.N.Nodes.next l.initial.nodes in
    record {
      sources : AreSources (g.M.Names.roots l.names) (drop l.i l.sources);
      fits : IsTrue (g.N.Nodes.room l.nodes (tree_rows (source_trees (drop l.i l.sources)) ++ row None 1 ∷ []));
      next : g.N.Nodes.next l.nodes ≡ n + l.i;
      first : l.first.number.0 ≡ n;
      free : AreFree (g.M.Names.roots l.names) (g.N.Nodes.is_taken l.nodes) n;
      sides : (m : ℕ) → n ≤ m → m < n + l.i → g.N.Nodes.is_taken l.nodes m ≡ false;
      count : g.M.Names.count l.names + l.i ≡ g.M.Names.count l.initial.names;
      limit : g.M.Names.limit l.names ≡ g.M.Names.limit l.initial.names;
      slots : g.N.Nodes.slots l.nodes ≡ g.N.Nodes.slots l.initial.nodes;
      plain : OnlyRises (g.N.Nodes.is_plain l.initial.nodes) (g.N.Nodes.is_plain l.nodes);
      over : g.M.Names.over l.names ≡ g.M.Names.over l.initial.names;
      stands : (w : World) → Both (g.N.Nodes.stands l.initial.nodes) (g.M.Names.stands l.initial.names) w → AreHeld l.sources w → IsSided (Both (g.N.Nodes.stands l.nodes) (g.M.Names.stands l.names)) (drop l.i l.sources) l.sources w;
    }
