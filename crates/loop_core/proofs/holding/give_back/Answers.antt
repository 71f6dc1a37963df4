use Rattle.std.proofs.Common.{[], ◌≡◌, Option, ℕ, None, Some, is_some, refl, sym, ap, subst, arith}
use Rattle.kj_model.specs.Calls.{with_awaited}
use Rattle.kj_model.specs.Changes.{named}
use Rattle.kj_model.specs.World.{Promise, Held}
use Rattle.promise_names.specs.Held.{IsListless, awaited_key}
use Rattle.promise_walks.specs.Walks.{Both}
use Rattle.promise_nodes.proofs.Same.{named_lists}
use Rattle.promise_nodes.specs.Members.{members_of}
use Rattle.loop_core.proofs.Held.{free_falls, free_moved}
use Rattle.loop_core.proofs.holding.give_back.Goals as goal

pub set-requires : goal.set-requires
set-requires g c =
    let ready = c.ground.invariant in
    let held = subst (λ k. g.M.Names.roots k.names awaited_key ≡ Some c.args.promise.root.number.0) (sym c.ground.view_is) c.requires.held in
    let gone = c.let_go.ensures.gone (ap (λ (o : Option ℕ). is_some o) held) in
    record { room = omega (arith, ready.few, gone, c.let_go.ensures.limit); kind = tt }

pub invariant_of-ground : goal.invariant_of-ground
invariant_of-ground g c =
    let ready = c.ground.invariant in
    let held = subst (λ k. g.M.Names.roots k.names awaited_key ≡ Some c.args.promise.root.number.0) (sym c.ground.view_is) c.requires.held in
    let gone = c.let_go.ensures.gone (ap (λ (o : Option ℕ). is_some o) held) in
    record {
      free = free_falls _ _ _ _ _ (free_moved _ _ _ _ _ awaited_key c.args.promise.name.0 c.args.promise.root.number.0 ready.free held c.let_go.ensures.root c.set.ensures.root)
          c.set_awaited.ensures.taken c.set_awaited.ensures.next;
      few = omega (arith, ready.few, gone, c.let_go.ensures.limit, c.set.ensures.few, c.set.ensures.limit);
      frames = omega (arith, ready.frames, c.set_awaited.ensures.slots);
      search = omega (arith, ready.search, c.set_awaited.ensures.slots);
    }

pub returns-clause-stands : goal.returns-clause-stands
returns-clause-stands g c w both none =
    let name = c.args.promise.name.0 in
    let root = c.args.promise.root.number.0 in
    let inner = subst (λ k. Both (g.N.Nodes.stands k.nodes) (g.M.Names.stands k.names) w) (sym c.ground.view_is) both in
    let v = with_awaited None w in
    let nodes = c.set_awaited.ensures.stands w None inner.0 refl in
    let names = c.set.ensures.stands v [] (c.let_go.ensures.stands w inner.1) (subst (λ (o : Option Held). IsListless o) (sym none) tt) tt in
    (g.met.N.Nodes.names_free c.set_awaited.new.self v (named name (Promise root) v) refl (named_lists name (Promise root) v (sym (ap members_of none))) nodes, names)
