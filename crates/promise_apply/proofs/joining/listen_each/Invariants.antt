use Rattle.std.proofs.Common.{◌≡◌, drop}
use Rattle.kj_model.specs.World.{World}
use Rattle.promise_nodes.specs.Kept.{OnlyFalls, OnlyRises}
use Rattle.promise_apply.specs.Joining.{source_trees}
use Rattle.promise_apply.proofs.Sided.{IsListening}
use Rattle.promise_apply.proofs.joining.listen_each.Given as goal

abbrev pub invariant-loop-source : goal.invariant-loop-source
invariant-loop-source g l = record {
  stands : (w : World) → g.N.Nodes.stands l.initial.nodes w → IsListening (g.N.Nodes.stands l.nodes) (source_trees (drop l.source-index l.sources)) (source_trees l.sources) w;
  taken : OnlyFalls (g.N.Nodes.is_taken l.initial.nodes) (g.N.Nodes.is_taken l.nodes);
  next : g.N.Nodes.next l.nodes ≡ g.N.Nodes.next l.initial.nodes;
  slots : g.N.Nodes.slots l.nodes ≡ g.N.Nodes.slots l.initial.nodes;
  plain : OnlyRises (g.N.Nodes.is_plain l.initial.nodes) (g.N.Nodes.is_plain l.nodes);
}
