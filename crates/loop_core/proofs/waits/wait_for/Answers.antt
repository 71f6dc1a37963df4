use Rattle.std.proofs.Common.{◌≡◌, Some, subst}
use Rattle.kj_model.specs.Calls.{held_awaited, wait, wait_more}
use Rattle.kj_model.specs.World.{World, State, Setting, Promise, held_at}
use Rattle.promise_walks.specs.Walks.{Both}
use Rattle.loop_core.specs.Waits.{MayHold, StandsIn, Waits, waited_as}
use Rattle.loop_core.proofs.Called.{call_then, led}
use Rattle.loop_core.proofs.WaitEnds.{wait_begins}
use Rattle.loop_core.proofs.waits.wait_for.Goals as goal

pub returns-clause-waits : goal.returns-clause-waits
returns-clause-waits g c =
    let rule = g.N.Nodes.rule in
    let name = c.args.name.0 in
    let root = c.args.root.number.0 in
    let Old : World → Type 0 = g.N.Nodes.stands c.args.over.now.nodes in
    let OldNames : World → Type 0 = g.M.Names.stands c.args.over.now.names in
    let Mid : World → Type 0 = g.N.Nodes.stands c.hold.new.ground.nodes in
    let MidNames : World → Type 0 = g.M.Names.stands c.hold.new.ground.names in
    let New : State → Type 0 = StandsIn (g.N.Nodes.stands c.wait_held.new.over.nodes) (g.M.Names.stands c.wait_held.new.over.names) in
    let begins = subst (λ k. (w : World) → Both (g.N.Nodes.stands k.nodes) (g.M.Names.stands k.names) w
    → held_at name w.names ≡ Some (Promise root) → Both Mid MidNames (held_awaited name root w)) c.over.view_is c.hold.ensures.stands in
    let first = wait_begins rule Old OldNames Mid MidNames name root c.args.turns (g.S.Steps.told c.args.steps.now) (g.S.Steps.lacks c.args.steps.now) begins in
    call_then (MayHold rule Old OldNames name root) (Waits rule Mid MidNames) New rule (λ (setting : Setting). wait setting name c.args.turns) (λ (setting : Setting). wait_more setting c.args.turns) (λ (setting : Setting). waited_as c.wait_held.result) _ _ _ _ _ _
    first.call first.none c.wait_held.ensures.waits

pub returns-clause-memory : goal.returns-clause-memory
returns-clause-memory g c s old =
    let rule = g.N.Nodes.rule in
    let name = c.args.name.0 in
    let root = c.args.root.number.0 in
    let Old : World → Type 0 = g.N.Nodes.stands c.args.over.now.nodes in
    let OldNames : World → Type 0 = g.M.Names.stands c.args.over.now.names in
    let Mid : World → Type 0 = g.N.Nodes.stands c.hold.new.ground.nodes in
    let MidNames : World → Type 0 = g.M.Names.stands c.hold.new.ground.names in
    let begins = subst (λ k. (w : World) → Both (g.N.Nodes.stands k.nodes) (g.M.Names.stands k.names) w
    → held_at name w.names ≡ Some (Promise root) → Both Mid MidNames (held_awaited name root w)) c.over.view_is c.hold.ensures.stands in
    let first = wait_begins rule Old OldNames Mid MidNames name root c.args.turns (g.S.Steps.told c.args.steps.now) (g.S.Steps.lacks c.args.steps.now) begins in
    let r = led (MayHold rule Old OldNames name root) (Waits rule Mid MidNames) rule (λ (setting : Setting). wait setting name c.args.turns) (λ (setting : Setting). wait_more setting c.args.turns) _ _ _ _ first.call first.none s old in
    c.wait_held.ensures.memory r.state r.stands
