use Rattle.std.proofs.Common.{None, refl, sym, subst, arith}
use Rattle.promise_walks.specs.Walks.{Both}
use Rattle.loop_core.proofs.Held.{free_falls, free_gone}
use Rattle.loop_core.proofs.holding.await_none.Goals as goal

pub invariant_of-ground : goal.invariant_of-ground
invariant_of-ground g c =
    let ready = c.ground.invariant in
    record {
      free = free_falls _ _ _ _ _ (free_gone _ _ _ _ _ ready.free c.let_go.ensures.root) c.set_awaited.ensures.taken c.set_awaited.ensures.next;
      few = omega (arith, ready.few, c.let_go.ensures.few, c.let_go.ensures.limit);
      frames = omega (arith, ready.frames, c.set_awaited.ensures.slots);
      search = omega (arith, ready.search, c.set_awaited.ensures.slots);
    }

pub returns-clause-stands : goal.returns-clause-stands
returns-clause-stands g c w both =
    let inner = subst (λ k. Both (g.N.Nodes.stands k.nodes) (g.M.Names.stands k.names) w) (sym c.ground.view_is) both in
    (c.set_awaited.ensures.stands w None inner.0 refl, c.let_go.ensures.stands w inner.1)
