use Rattle.std.proofs.Common.{◌∙◌, refl, subst}
use Rattle.kj_model.specs.Calls.{Done, WaitNoMemory, lost}
use Rattle.kj_model.specs.Changes.{silent}
use Rattle.kj_model.specs.World.{World, State, Setting}
use Rattle.promise_walks.specs.Walks.{Both, Does}
use Rattle.loop_core.specs.Waits.{StandsIn, awaited_gone, valued_at}
use Rattle.loop_core.proofs.Called.{call_then}
use Rattle.loop_core.proofs.WaitEnds.{call_after}
use Rattle.loop_core.proofs.WaitParts.{call_lacks, found_does, found_valued}
use Rattle.loop_core.proofs.waits.finish_tree.Goals as goal

pub returns-in-Ok-clause-ends : goal.returns-in-Ok-clause-ends
returns-in-Ok-clause-ends g c =
    let rule = g.N.Nodes.rule in
    let root = c.args.root.number.0 in
    let o = c.in-Ok.outcome in
    let Old : World → Type 0 = g.N.Nodes.stands c.args.over.now.nodes in
    let OldNames : World → Type 0 = g.M.Names.stands c.args.over.now.names in
    let Mid : World → Type 0 = g.N.Nodes.stands c.evaluate.new.self.nodes in
    let MidNames : World → Type 0 = g.M.Names.stands c.evaluate.new.self.names in
    let New : World → Type 0 = g.N.Nodes.stands c.free_awaited.new.ground.nodes in
    let NewNames : World → Type 0 = g.M.Names.stands c.free_awaited.new.ground.names in
    let e = c.in-Ok.ensures in
    let first = found_valued Old OldNames Mid MidNames rule root o e.gives.items _ _ _ _ e.gives.told e.lacks e.gives.same in
    let last = found_does Mid MidNames New NewNames rule awaited_gone (Done o) _ _ _ _
    (subst (λ k. Does (Both (g.N.Nodes.stands k.nodes) (g.M.Names.stands k.names)) (Both New NewNames) awaited_gone (λ s. s) (g.S.Steps.told c.evaluate.new.steps) (g.S.Steps.told c.free_awaited.new.steps)) c.over.view_is c.free_awaited.ensures.does)
    c.free_awaited.ensures.lacks in
    call_then (StandsIn Old OldNames) (StandsIn Mid MidNames) (StandsIn New NewNames) rule (valued_at root) (λ (setting : Setting) (s : State). (awaited_gone s, Done o)) (λ (setting : Setting) (s : State). (s, Done o)) _ _ _ _ _ _
    first.call first.none last.call

pub returns-in-Ok-clause-memory : goal.returns-in-Ok-clause-memory
returns-in-Ok-clause-memory g c = c.free_awaited.ensures.lacks ∙ c.in-Ok.ensures.lacks

pub returns-in-Err-clause-ends : goal.returns-in-Err-clause-ends
returns-in-Err-clause-ends g c =
    let rule = g.N.Nodes.rule in
    let root = c.args.root.number.0 in
    let Old : World → Type 0 = g.N.Nodes.stands c.args.over.now.nodes in
    let OldNames : World → Type 0 = g.M.Names.stands c.args.over.now.names in
    let Mid : World → Type 0 = g.N.Nodes.stands c.evaluate.new.self.nodes in
    let MidNames : World → Type 0 = g.M.Names.stands c.evaluate.new.self.names in
    let New : World → Type 0 = g.N.Nodes.stands c.lose.new.ground.nodes in
    let NewNames : World → Type 0 = g.M.Names.stands c.lose.new.ground.names in
    let lost_there = subst (λ k. (w : World) → Both (g.N.Nodes.stands k.nodes) (g.M.Names.stands k.names) w → Both New NewNames (lost w)) c.over.view_is c.lose.ensures.stands in
    let e = c.in-Err.ensures in
    let first = call_lacks Old OldNames Mid MidNames rule root e.gives.items _ _ _ _ e.gives.told e.lacks e.gives.same in
    call_after (StandsIn Old OldNames) (StandsIn Mid MidNames) (StandsIn New NewNames) rule (valued_at root) (λ (setting : Setting) (s : State). (silent lost s, WaitNoMemory)) (λ (setting : Setting) (s : State). (s, WaitNoMemory)) lost _ _ _ _
    first (λ setting s stands. (lost_there s.world stands, refl))

pub returns-in-Err-clause-memory : goal.returns-in-Err-clause-memory
returns-in-Err-clause-memory g c = c.in-Err.ensures.lacks
