use Rattle.std.proofs.Common.{◌≡◌, ◌≤◌, drop, vec_capacity}
use Rattle.kj_model.specs.Value.{all_applied}
use Rattle.promise_nodes.specs.Kept.{OnlyRises}
use Rattle.promise_names.specs.Held.{AreFree}
use Rattle.promise_walks.specs.Walks.{Both}
use Rattle.promise_eval.specs.Done.{Did, commands_of}
use Rattle.promise_eval.proofs.acting.apply_all.Given as goal

abbrev pub invariant-loop-i : goal.invariant-loop-i
invariant-loop-i g l = record {
  applied : Did (Both (g.N.Nodes.stands l.fn.nodes) (g.M.Names.stands l.fn.names)) (Both (g.N.Nodes.stands l.nodes) (g.M.Names.stands l.names)) g.N.Nodes.rule (λ setting s. all_applied setting (commands_of l.commands) s) (λ setting s. all_applied setting (commands_of (drop l.i l.commands)) s) (g.S.Steps.told l.fn.steps) (g.S.Steps.told l.steps);
  lacks : g.S.Steps.lacks l.steps ≡ g.S.Steps.lacks l.fn.steps;
  free : AreFree (g.M.Names.roots l.names) (g.N.Nodes.is_taken l.nodes) (g.N.Nodes.next l.nodes);
  few : g.M.Names.count l.names ≤ g.M.Names.limit l.names;
  slots : g.N.Nodes.slots l.nodes ≡ g.N.Nodes.slots l.fn.nodes;
  plain : OnlyRises (g.N.Nodes.is_plain l.fn.nodes) (g.N.Nodes.is_plain l.nodes);
  over : g.M.Names.over l.names ≡ g.M.Names.over l.fn.names;
  frames_room : vec_capacity l.fn.frames ≤ vec_capacity l.frames;
  room : vec_capacity l.fn.search ≤ vec_capacity l.search;
}
