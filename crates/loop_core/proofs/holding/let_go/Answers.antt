use Rattle.std.proofs.Common.{◌∙◌, Option, Some, sym, ap, subst}
use Rattle.kj_model.specs.Calls.{let_go, let_go_of}
use Rattle.kj_model.specs.Changes.{silent}
use Rattle.kj_model.specs.Effects.{disarmed_node}
use Rattle.kj_model.specs.World.{World, Awaited}
use Rattle.promise_walks.proofs.Changing.{does_behind, does_none, does_silent}
use Rattle.promise_names.specs.Held.{awaited_key}
use Rattle.promise_walks.specs.Walks.{Both}
use Rattle.promise_walks.proofs.Composed.{does_from}
use Rattle.loop_core.proofs.holding.let_go.Goals as goal

pub let_go_of-requires : goal.let_go_of-requires
let_go_of-requires g c = record { held = sym (c.in-Some.ensures.root ∙ ap (λ names. g.M.Names.roots names awaited_key) c.names.ensures) }

pub returns-in-Some-clause-does : goal.returns-in-Some-clause-does
returns-in-Some-clause-does g c =
    let a : Awaited = record { name = c.in-Some.promise.name.0; root = c.in-Some.promise.root.number.0 } in
    let A : World → Type 0 = Both (g.N.Nodes.stands c.args.ground.now.nodes) (g.M.Names.stands c.args.ground.now.names) in
    let B : World → Type 0 = Both (g.N.Nodes.stands c.disarm.new.ground.nodes) (g.M.Names.stands c.disarm.new.ground.names) in
    let C : World → Type 0 = Both (g.N.Nodes.stands c.let_go_of.new.ground.nodes) (g.M.Names.stands c.let_go_of.new.ground.names) in
    does_from A C (λ s. let_go_of (Some a) (silent (disarmed_node 0) s)) let_go (λ s. s) _ _
    (λ s stands. sym (ap (λ (o : Option Awaited). let_go_of o (silent (disarmed_node 0) s)) (c.in-Some.ensures.awaited (disarmed_node 0 s.world) (subst (λ names. g.M.Names.stands names (disarmed_node 0 s.world)) (sym c.names.ensures) (c.disarm.ensures.stands s.world stands).1))))
    (does_behind A B C (let_go_of (Some a)) (disarmed_node 0) _ _ c.disarm.ensures.stands c.let_go_of.ensures.does)

pub returns-in-None-clause-does : goal.returns-in-None-clause-does
returns-in-None-clause-does g c =
    let A : World → Type 0 = Both (g.N.Nodes.stands c.args.ground.now.nodes) (g.M.Names.stands c.args.ground.now.names) in
    let B : World → Type 0 = Both (g.N.Nodes.stands c.disarm.new.ground.nodes) (g.M.Names.stands c.disarm.new.ground.names) in
    does_silent A A B (λ s. s) let_go (λ s. s) (disarmed_node 0) _ _ (does_none A _)
    (λ s stands mid. (
      c.disarm.ensures.stands s.world stands,
      sym (ap (λ (o : Option Awaited). let_go_of o (silent (disarmed_node 0) s)) (c.in-None.ensures.awaited (disarmed_node 0 s.world) (subst (λ names. g.M.Names.stands names (disarmed_node 0 s.world)) (sym c.names.ensures) (c.disarm.ensures.stands s.world stands).1))),
    ))
