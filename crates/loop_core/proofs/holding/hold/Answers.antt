use Rattle.std.proofs.Common.{◌≡◌, ◌∙◌, Option, ℕ, Some, is_some, refl, sym, ap, subst, arith}
use Rattle.kj_model.specs.Calls.{with_awaited}
use Rattle.kj_model.specs.Changes.{unnamed}
use Rattle.kj_model.specs.Listening.{listened}
use Rattle.promise_firing.proofs.Same.{listened_names}
use Rattle.promise_names.specs.Held.{awaited_key}
use Rattle.promise_walks.specs.Walks.{Both}
use Rattle.promise_nodes.specs.Members.{members_of}
use Rattle.promise_nodes.proofs.Same.{unnamed_lists}
use Rattle.loop_core.proofs.Held.{free_falls, free_moved}
use Rattle.loop_core.proofs.holding.hold.Goals as goal

pub invariant_of-ground : goal.invariant_of-ground
invariant_of-ground g c =
    let ready = c.ground.invariant in
    let named = subst (λ k. g.M.Names.roots k.names c.args.name.0 ≡ Some c.args.root.number.0) (sym c.ground.view_is) c.requires.named in
    let gone = c.remove.ensures.gone (ap (λ (o : Option ℕ). is_some o) named) in
    record {
      free = free_falls _ _ _ _ _ (free_moved _ _ _ _ _ c.args.name.0 awaited_key c.args.root.number.0 ready.free named c.remove.ensures.root c.hold.ensures.root)
          (λ n h. c.set_awaited.ensures.taken n (c.listen.ensures.taken n h)) (c.listen.ensures.next ∙ c.set_awaited.ensures.next);
      few = omega (arith, ready.few, gone, c.remove.ensures.limit, c.hold.ensures.few, c.hold.ensures.limit);
      frames = omega (arith, ready.frames, c.listen.ensures.slots, c.set_awaited.ensures.slots);
      search = omega (arith, ready.search, c.listen.ensures.slots, c.set_awaited.ensures.slots);
    }

pub hold-requires : goal.hold-requires
hold-requires g c =
    let ready = c.ground.invariant in
    let named = subst (λ k. g.M.Names.roots k.names c.args.name.0 ≡ Some c.args.root.number.0) (sym c.ground.view_is) c.requires.named in
    let gone = c.remove.ensures.gone (ap (λ (o : Option ℕ). is_some o) named) in
    record { room = omega (arith, ready.few, gone, c.remove.ensures.limit) }

pub returns-clause-stands : goal.returns-clause-stands
returns-clause-stands g c w both held =
    let name = c.args.name.0 in
    let root = c.args.root.number.0 in
    let inner = subst (λ k. Both (g.N.Nodes.stands k.nodes) (g.M.Names.stands k.names) w) (sym c.ground.view_is) both in
    let v = unnamed name w in
    let u = with_awaited (Some (record { name = name; root = root })) v in
    let nodes = c.set_awaited.ensures.stands v (Some (record { name = name; root = root })) (g.met.N.Nodes.names_free c.ground.inside.keepers.nodes w v refl (unnamed_lists name w (ap members_of held)) inner.0) refl in
    let names = c.hold.ensures.stands v (c.remove.ensures.stands w inner.1) in
    (c.listen.ensures.stands u nodes, g.met.M.Names.nodes_free c.hold.new.self u (listened root u) (listened_names root u) names)
