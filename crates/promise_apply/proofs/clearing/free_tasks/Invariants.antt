use Rattle.std.proofs.Common.{◌≡◌, ℕ, ◌≤◌, ◌+◌, vec_capacity}
use Rattle.kj_model.specs.World.{held_at}
use Rattle.promise_nodes.specs.Kept.{OnlyFalls, OnlyRises}
use Rattle.promise_names.specs.Held.{IsSet}
use Rattle.promise_walks.specs.Walks.{Does}
use Rattle.promise_walks.specs.Living.{live_below}
use Rattle.promise_apply.specs.Building.{Both}
use Rattle.promise_apply.specs.Sets.{tasks_freed}
use Rattle.promise_apply.proofs.clearing.free_tasks.Given as goal

abbrev pub invariant-freeing : goal.invariant-freeing
invariant-freeing g l = record {
  does : Does (Both (g.N.Nodes.stands l.fn.nodes) (g.M.Names.stands l.fn.names)) (λ w. Both (g.N.Nodes.stands l.nodes) (g.M.Names.stands l.names) w × (IsSet (held_at l.fn.group.0 w.names) × (live_below (g.N.Nodes.next l.nodes) w ≤ l.left))) (tasks_freed l.fn.group.0) (tasks_freed l.fn.group.0) (g.S.Steps.told l.fn.steps) (g.S.Steps.told l.steps);
  lacks : g.S.Steps.lacks l.steps ≡ g.S.Steps.lacks l.fn.steps;
  taken : OnlyFalls (g.N.Nodes.is_taken l.fn.nodes) (g.N.Nodes.is_taken l.nodes);
  plain : OnlyRises (g.N.Nodes.is_plain l.fn.nodes) (g.N.Nodes.is_plain l.nodes);
  next : g.N.Nodes.next l.nodes ≡ g.N.Nodes.next l.fn.nodes;
  slots : g.N.Nodes.slots l.nodes ≡ g.N.Nodes.slots l.fn.nodes;
  roots : (name : ℕ) → g.M.Names.roots l.names name ≡ g.M.Names.roots l.fn.names name;
  count : g.M.Names.count l.names ≡ g.M.Names.count l.fn.names;
  limit : g.M.Names.limit l.names ≡ g.M.Names.limit l.fn.names;
  over : g.M.Names.over l.names ≡ g.M.Names.over l.fn.names;
  frames_room : g.N.Nodes.slots l.nodes + 1 ≤ vec_capacity l.frames;
  search_room : g.N.Nodes.slots l.nodes + 1 ≤ vec_capacity l.search;
  frames_more : vec_capacity l.fn.frames ≤ vec_capacity l.frames;
  search_more : vec_capacity l.fn.search ≤ vec_capacity l.search;
}

abbrev pub decreases-freeing : goal.decreases-freeing
decreases-freeing g l = l.left
