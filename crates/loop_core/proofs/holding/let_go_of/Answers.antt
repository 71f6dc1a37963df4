use Rattle.std.proofs.Common.{Bool, None, Some, sym, ap, subst}
use Rattle.kj_model.specs.Calls.{let_go_of, name_back, with_awaited}
use Rattle.kj_model.specs.Changes.{named}
use Rattle.kj_model.specs.Value.{freed}
use Rattle.kj_model.specs.World.{World, State, Awaited, Promise, held_at}
use Rattle.promise_apply.proofs.Uses.{there_is}
use Rattle.promise_walks.proofs.Changing.{does_none, does_silent}
use Rattle.promise_names.specs.Held.{SeesHeld}
use Rattle.promise_walks.specs.Walks.{Both}
use Rattle.loop_core.proofs.WaitEnds.{none_there}
use Rattle.loop_core.proofs.holding.let_go_of.Goals as goal

pub returns-in-Some-clause-does : goal.returns-in-Some-clause-does
returns-in-Some-clause-does g c =
    let a : Awaited = record { name = c.args.promise.name.0; root = c.args.promise.root.number.0 } in
    let A : World → Type 0 = Both (g.N.Nodes.stands c.args.ground.now.nodes) (g.M.Names.stands c.args.ground.now.names) in
    let B : World → Type 0 = Both (g.N.Nodes.stands c.free.new.ground.nodes) (g.M.Names.stands c.free.new.ground.names) in
    let C : World → Type 0 = Both (g.N.Nodes.stands c.await_none.new.ground.nodes) (g.M.Names.stands c.await_none.new.ground.names) in
    does_silent A B C (freed a.root) (let_go_of (Some a)) (λ s. s) (with_awaited None) _ _ c.free.ensures.does
    (λ s stands mid. (
      c.await_none.ensures.stands (freed a.root s).world mid,
      ap (λ (b : Bool). name_back b a s) (there_is a.name s.world.names (Some c.in-Some.field-0) (c.in-Some.ensures.held s.world (subst (λ names. g.M.Names.stands names s.world) (sym c.names.ensures) stands.1))),
    ))

pub returns-in-None-clause-does : goal.returns-in-None-clause-does
returns-in-None-clause-does g c =
    let a : Awaited = record { name = c.args.promise.name.0; root = c.args.promise.root.number.0 } in
    let A : World → Type 0 = Both (g.N.Nodes.stands c.args.ground.now.nodes) (g.M.Names.stands c.args.ground.now.names) in
    let C : World → Type 0 = Both (g.N.Nodes.stands c.give_back.new.ground.nodes) (g.M.Names.stands c.give_back.new.ground.names) in
    let sees : (s : State) → A s.world → SeesHeld None (held_at a.name s.world.names) = λ s stands.
    c.in-None.ensures.held s.world (subst (λ names. g.M.Names.stands names s.world) (sym c.names.ensures) stands.1) in
    does_silent A A C (λ s. s) (let_go_of (Some a)) (λ s. s) (λ w. named a.name (Promise a.root) (with_awaited None w)) _ _ (does_none A _)
    (λ s stands mid. (
      c.give_back.ensures.stands s.world stands (none_there (held_at a.name s.world.names) (sees s stands)),
      ap (λ (b : Bool). name_back b a s) (there_is a.name s.world.names None (sees s stands)),
    ))
