use Rattle.std.proofs.Common.{◌≡◌, ◌≤◌, vec_capacity}
use Rattle.kj_model.specs.Calls.{hubs_closed}
use Rattle.promise_walks.specs.Walks.{Both, Does}
use Rattle.promise_walks.specs.Living.{live_below}
use Rattle.promise_firing.specs.Ground.{Keeps, ground}
use Rattle.promise_firing.proofs.closing_all.close_hubs.Given as goal

abbrev pub invariant-closing : goal.invariant-closing
invariant-closing g l = record {
  does : Does (Both (g.N.Nodes.stands l.fn.nodes) (g.M.Names.stands l.fn.names)) (λ w. Both (g.N.Nodes.stands l.nodes) (g.M.Names.stands l.names) w × (live_below (g.N.Nodes.next l.nodes) w ≤ l.left)) hubs_closed hubs_closed (g.S.Steps.told l.fn.steps) (g.S.Steps.told l.steps);
  lacks : g.S.Steps.lacks l.steps ≡ g.S.Steps.lacks l.fn.steps;
  kept : Keeps (ground (g.N.Nodes.is_taken l.fn.nodes) (g.N.Nodes.is_plain l.fn.nodes) (g.N.Nodes.next l.fn.nodes) (g.N.Nodes.slots l.fn.nodes) (g.M.Names.roots l.fn.names) (g.M.Names.count l.fn.names) (g.M.Names.limit l.fn.names) (vec_capacity l.fn.frames) (vec_capacity l.fn.search)) (ground (g.N.Nodes.is_taken l.nodes) (g.N.Nodes.is_plain l.nodes) (g.N.Nodes.next l.nodes) (g.N.Nodes.slots l.nodes) (g.M.Names.roots l.names) (g.M.Names.count l.names) (g.M.Names.limit l.names) (vec_capacity l.frames) (vec_capacity l.search));
  over : g.M.Names.over l.names ≡ g.M.Names.over l.fn.names;
}

abbrev pub decreases-closing : goal.decreases-closing
decreases-closing g l = l.left
