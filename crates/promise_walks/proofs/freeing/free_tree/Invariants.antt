use Rattle.std.proofs.Common.{◌≡◌, ℕ, ◌≤◌, ◌+◌, vec_len, vec_capacity}
use Rattle.kj_model.specs.Free.{free_to}
use Rattle.promise_nodes.specs.Kept.{OnlyFalls, OnlyRises}
use Rattle.promise_walks.specs.Walks.{Both, Does, guard_of}
use Rattle.promise_walks.specs.Stacks.{AreUnlisted, finish, weigh}
use Rattle.promise_walks.proofs.freeing.free_tree.Given as goal

abbrev pub invariant-falling : goal.invariant-falling
invariant-falling g l =
    let d = g.N.Nodes.slots l.nodes + 1 in
    record {
      does : Does (Both (g.N.Nodes.stands l.fn.nodes) (g.M.Names.stands l.fn.names)) (Both (g.N.Nodes.stands l.nodes) (g.M.Names.stands l.names)) (free_to (guard_of l.guard) (g.N.Nodes.slots l.fn.nodes + 1) l.fn.root.number.0) (finish (guard_of l.guard) d l.stack.items) (g.S.Steps.told l.fn.steps) (g.S.Steps.told l.steps);
      lacks : g.S.Steps.lacks l.steps ≡ g.S.Steps.lacks l.fn.steps;
      unlisted : AreUnlisted (g.N.Nodes.is_listed l.nodes) l.stack.items;
      taken : OnlyFalls (g.N.Nodes.is_taken l.fn.nodes) (g.N.Nodes.is_taken l.nodes);
      listed : OnlyFalls (g.N.Nodes.is_listed l.fn.nodes) (g.N.Nodes.is_listed l.nodes);
      plain : OnlyRises (g.N.Nodes.is_plain l.fn.nodes) (g.N.Nodes.is_plain l.nodes);
      next : g.N.Nodes.next l.nodes ≡ g.N.Nodes.next l.fn.nodes;
      slots : g.N.Nodes.slots l.nodes ≡ g.N.Nodes.slots l.fn.nodes;
      roots : (name : ℕ) → g.M.Names.roots l.names name ≡ g.M.Names.roots l.fn.names name;
      count : g.M.Names.count l.names ≡ g.M.Names.count l.fn.names;
      limit : g.M.Names.limit l.names ≡ g.M.Names.limit l.fn.names;
      over : g.M.Names.over l.names ≡ g.M.Names.over l.fn.names;
      bound : vec_len l.stack ≤ d;
      stack_room : d ≤ vec_capacity l.stack;
      room : d ≤ vec_capacity l.search;
      stack_more : vec_capacity l.fn.stack ≤ vec_capacity l.stack;
      more : vec_capacity l.fn.search ≤ vec_capacity l.search;
    }

abbrev pub decreases-falling : goal.decreases-falling
decreases-falling g l = weigh (g.N.Nodes.slots l.nodes + 1) l.stack.items
