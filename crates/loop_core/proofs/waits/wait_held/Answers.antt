use Rattle.std.proofs.Common.{◌∙◌, ℕ, refl, subst}
use Rattle.kj_base.specs.Counts.{HasLacked}
use Rattle.kj_model.specs.Calls.{Turns, WaitIdle, WaitNoMemory, let_go, lost, wait_done, wait_more}
use Rattle.kj_model.specs.World.{World, State, Setting}
use Rattle.promise_walks.specs.Walks.{Both, Does}
use Rattle.loop_core.specs.declared.waiting.WaitEnd.TheVariants.{AllMade, Idle, NoMemory, Ready}
use Rattle.loop_core.specs.Waits.{Rested, StandsIn, Waits, lacked_waiting, left_of_wait, waited_as}
use Rattle.loop_core.proofs.Called.{call_less, call_then}
use Rattle.loop_core.proofs.WaitEnds.{call_after}
use Rattle.loop_core.proofs.WaitParts.{found_does}
use Rattle.loop_core.proofs.waits.wait_held.Goals as goal

pub returns-in-Ready-clause-waits : goal.returns-in-Ready-clause-waits
returns-in-Ready-clause-waits g c =
    let rule = g.N.Nodes.rule in
    let A : State → Type 0 = Waits rule (g.N.Nodes.stands c.args.over.now.nodes) (g.M.Names.stands c.args.over.now.names) in
    let B : State → Type 0 = Rested rule (g.N.Nodes.stands c.wait_turns.new.over.nodes) (g.M.Names.stands c.wait_turns.new.over.names) in
    let C : State → Type 0 = StandsIn (g.N.Nodes.stands c.wait_turns.new.over.nodes) (g.M.Names.stands c.wait_turns.new.over.names) in
    let D : State → Type 0 = StandsIn (g.N.Nodes.stands c.finish.new.over.nodes) (g.M.Names.stands c.finish.new.over.names) in
    let last = call_less C D B rule (λ (setting : Setting). wait_done setting) (λ (setting : Setting). waited_as c.finish.result) _ _ _ _ (λ s r. r.stands) c.finish.ensures.ends in
    call_then A B D rule (λ (setting : Setting). wait_more setting c.args.turns) (λ (setting : Setting). left_of_wait Ready setting) (λ (setting : Setting). waited_as c.finish.result) _ _ _ _ _ _
    c.in-Ready.ensures.waits.call (c.in-Ready.ensures.waits.only refl) last

pub returns-in-Ready-clause-memory : goal.returns-in-Ready-clause-memory
returns-in-Ready-clause-memory g c s old =
    subst (λ (k : ℕ). HasLacked (lacked_waiting c.finish.result) k (g.S.Steps.lacks c.finish.new.steps)) (c.in-Ready.ensures.memory s old) c.finish.ensures.memory

pub returns-in-Idle-clause-waits : goal.returns-in-Idle-clause-waits
returns-in-Idle-clause-waits g c =
    let rule = g.N.Nodes.rule in
    let A : State → Type 0 = Waits rule (g.N.Nodes.stands c.args.over.now.nodes) (g.M.Names.stands c.args.over.now.names) in
    let Mid : World → Type 0 = g.N.Nodes.stands c.wait_turns.new.over.nodes in
    let MidNames : World → Type 0 = g.M.Names.stands c.wait_turns.new.over.names in
    let New : World → Type 0 = g.N.Nodes.stands c.let_go.new.ground.nodes in
    let NewNames : World → Type 0 = g.M.Names.stands c.let_go.new.ground.names in
    let gone = subst (λ k. Does (Both (g.N.Nodes.stands k.nodes) (g.M.Names.stands k.names)) (Both New NewNames) let_go (λ s. s) (g.S.Steps.told c.wait_turns.new.steps) (g.S.Steps.told c.let_go.new.steps)) c.over.view_is c.let_go.ensures.does in
    let d = found_does Mid MidNames New NewNames rule let_go WaitIdle _ _ _ _ gone c.let_go.ensures.lacks in
    let last = call_less (StandsIn Mid MidNames) (StandsIn New NewNames) (Rested rule Mid MidNames) rule (λ (setting : Setting) (s : State). (let_go s, WaitIdle)) (λ (setting : Setting) (s : State). (s, WaitIdle)) _ _ _ _ (λ s r. r.stands) d.call in
    call_then A (Rested rule Mid MidNames) (StandsIn New NewNames) rule (λ (setting : Setting). wait_more setting c.args.turns) (λ (setting : Setting). left_of_wait Idle setting) (λ (setting : Setting) (s : State). (s, WaitIdle)) _ _ _ _ _ _
    c.in-Idle.ensures.waits.call (c.in-Idle.ensures.waits.only refl) last

pub returns-in-Idle-clause-memory : goal.returns-in-Idle-clause-memory
returns-in-Idle-clause-memory g c s old = c.let_go.ensures.lacks ∙ c.in-Idle.ensures.memory s old

pub returns-in-AllMade-clause-waits : goal.returns-in-AllMade-clause-waits
returns-in-AllMade-clause-waits g c =
    let rule = g.N.Nodes.rule in
    let A : State → Type 0 = Waits rule (g.N.Nodes.stands c.args.over.now.nodes) (g.M.Names.stands c.args.over.now.names) in
    let Mid : World → Type 0 = g.N.Nodes.stands c.wait_turns.new.over.nodes in
    let MidNames : World → Type 0 = g.M.Names.stands c.wait_turns.new.over.names in
    let New : World → Type 0 = g.N.Nodes.stands c.let_go-in-AllMade.new.ground.nodes in
    let NewNames : World → Type 0 = g.M.Names.stands c.let_go-in-AllMade.new.ground.names in
    let gone = subst (λ k. Does (Both (g.N.Nodes.stands k.nodes) (g.M.Names.stands k.names)) (Both New NewNames) let_go (λ s. s) (g.S.Steps.told c.wait_turns.new.steps) (g.S.Steps.told c.let_go-in-AllMade.new.steps)) c.over-in-AllMade.view_is c.let_go-in-AllMade.ensures.does in
    let d = found_does Mid MidNames New NewNames rule let_go Turns _ _ _ _ gone c.let_go-in-AllMade.ensures.lacks in
    let last = call_less (StandsIn Mid MidNames) (StandsIn New NewNames) (Rested rule Mid MidNames) rule (λ (setting : Setting) (s : State). (let_go s, Turns)) (λ (setting : Setting) (s : State). (s, Turns)) _ _ _ _ (λ s r. r.stands) d.call in
    call_then A (Rested rule Mid MidNames) (StandsIn New NewNames) rule (λ (setting : Setting). wait_more setting c.args.turns) (λ (setting : Setting). left_of_wait AllMade setting) (λ (setting : Setting) (s : State). (s, Turns)) _ _ _ _ _ _
    c.in-AllMade.ensures.waits.call (c.in-AllMade.ensures.waits.only refl) last

pub returns-in-AllMade-clause-memory : goal.returns-in-AllMade-clause-memory
returns-in-AllMade-clause-memory g c s old = c.let_go-in-AllMade.ensures.lacks ∙ c.in-AllMade.ensures.memory s old

pub returns-in-NoMemory-clause-waits : goal.returns-in-NoMemory-clause-waits
returns-in-NoMemory-clause-waits g c =
    let rule = g.N.Nodes.rule in
    let A : State → Type 0 = Waits rule (g.N.Nodes.stands c.args.over.now.nodes) (g.M.Names.stands c.args.over.now.names) in
    let B : State → Type 0 = Rested rule (g.N.Nodes.stands c.wait_turns.new.over.nodes) (g.M.Names.stands c.wait_turns.new.over.names) in
    let D : State → Type 0 = StandsIn (g.N.Nodes.stands c.lose.new.ground.nodes) (g.M.Names.stands c.lose.new.ground.names) in
    let lost_there = subst (λ k. (w : World) → Both (g.N.Nodes.stands k.nodes) (g.M.Names.stands k.names) w → Both (g.N.Nodes.stands c.lose.new.ground.nodes) (g.M.Names.stands c.lose.new.ground.names) (lost w)) c.over-in-NoMemory.view_is c.lose.ensures.stands in
    call_after A B D rule (λ (setting : Setting). wait_more setting c.args.turns) (λ (setting : Setting). left_of_wait NoMemory setting) (λ (setting : Setting) (s : State). (s, WaitNoMemory)) lost _ _ _ _
    c.in-NoMemory.ensures.waits.call (λ setting s stands. (lost_there s.world stands.stands, refl))

pub returns-in-NoMemory-clause-memory : goal.returns-in-NoMemory-clause-memory
returns-in-NoMemory-clause-memory g c s old = c.in-NoMemory.ensures.memory s old
