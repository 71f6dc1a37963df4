use Rattle.std.proofs.Common.{Option, None, sym, ap, subst}
use Rattle.kj_model.specs.Calls.{awaited_freed, with_awaited}
use Rattle.kj_model.specs.Effects.{disarmed_node}
use Rattle.kj_model.specs.Value.{freed}
use Rattle.kj_model.specs.World.{World, Awaited}
use Rattle.promise_walks.proofs.Changing.{does_none, does_silent}
use Rattle.promise_walks.specs.Walks.{Both}
use Rattle.promise_walks.proofs.Composed.{does_from}
use Rattle.loop_core.specs.Waits.{awaited_gone}
use Rattle.loop_core.proofs.holding.free_awaited.Goals as goal

pub returns-in-Some-clause-does : goal.returns-in-Some-clause-does
returns-in-Some-clause-does g c =
    let root = c.in-Some.promise.root.number.0 in
    let A : World → Type 0 = Both (g.N.Nodes.stands c.args.ground.now.nodes) (g.M.Names.stands c.args.ground.now.names) in
    let B : World → Type 0 = Both (g.N.Nodes.stands c.free.new.ground.nodes) (g.M.Names.stands c.free.new.ground.names) in
    let D : World → Type 0 = Both (g.N.Nodes.stands c.disarm.new.ground.nodes) (g.M.Names.stands c.disarm.new.ground.names) in
    does_silent A B D (freed root) awaited_gone (λ s. s) (λ w. disarmed_node 0 (with_awaited None w)) _ _ c.free.ensures.does
    (λ s stands mid. (
      c.disarm.ensures.stands _ (c.await_none.ensures.stands (freed root s).world mid),
      sym (ap (λ (o : Option Awaited). awaited_freed o s) (c.in-Some.ensures.awaited s.world (subst (λ names. g.M.Names.stands names s.world) (sym c.names.ensures) stands.1))),
    ))

pub returns-in-None-clause-does : goal.returns-in-None-clause-does
returns-in-None-clause-does g c =
    let A : World → Type 0 = Both (g.N.Nodes.stands c.args.ground.now.nodes) (g.M.Names.stands c.args.ground.now.names) in
    does_from A A (λ s. s) awaited_gone (λ s. s) _ _
    (λ s stands. sym (ap (λ (o : Option Awaited). awaited_freed o s) (c.in-None.ensures.awaited s.world (subst (λ names. g.M.Names.stands names s.world) (sym c.names.ensures) stands.1))))
    (does_none A _)
