use Rattle.std.proofs.Common.{◌≡◌, ◌≤◌, ◌+◌, ◌-◌, vec_len, vec_capacity, length}
use Rattle.kj_model.specs.Value.{value_to}
use Rattle.promise_nodes.specs.Kept.{OnlyRises}
use Rattle.promise_walks.specs.Values.{Walked}
use Rattle.promise_walks.specs.Climbs.{ArePlain, is_at, weigh, weigh_at}
use Rattle.promise_walks.proofs.evaluating.climb_all.Given as goal

abbrev pub invariant-walking : goal.invariant-walking
invariant-walking g l =
    let d = g.L.Land.slots l.land + 1 in
    record {
      walked : Walked (g.L.Land.stands l.fn.land) (g.L.Land.stands l.land) g.L.Land.rule (λ setting s. value_to setting (g.L.Land.slots l.fn.land + 1) l.fn.root.number.0 s) (λ setting s. is_at setting d l.stack.items l.at s) (g.S.Steps.told l.fn.steps) (g.S.Steps.told l.steps);
      lacks : g.S.Steps.lacks l.steps ≡ g.S.Steps.lacks l.fn.steps;
      stack : ArePlain (g.L.Land.is_plain l.land) l.stack.items;
      plain : OnlyRises (g.L.Land.is_plain l.fn.land) (g.L.Land.is_plain l.land);
      slots : g.L.Land.slots l.land ≡ g.L.Land.slots l.fn.land;
      over : g.L.Land.over l.land ≡ g.L.Land.over l.fn.land;
      bound : vec_len l.stack ≤ d;
      room : d ≤ vec_capacity l.stack;
      more : vec_capacity l.fn.stack ≤ vec_capacity l.stack;
    }

abbrev pub decreases-walking : goal.decreases-walking
decreases-walking g l = weigh (g.L.Land.slots l.land + 1) l.stack.items + weigh_at (g.L.Land.slots l.land + 1 - length l.stack.items) l.at
