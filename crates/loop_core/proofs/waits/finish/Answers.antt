use Rattle.std.proofs.Common.{refl, sym, ap}
use Rattle.kj_model.specs.Calls.{WaitIdle, wait_done, wait_value_at}
use Rattle.kj_model.specs.World.{State, Setting}
use Rattle.promise_walks.specs.Values.{setting_of}
use Rattle.loop_core.specs.Waits.{StandsIn, valued_at, waited_as}
use Rattle.loop_core.proofs.Called.{call_from, call_silent}
use Rattle.loop_core.proofs.waits.finish.Goals as goal

pub returns-in-Some-clause-ends : goal.returns-in-Some-clause-ends
returns-in-Some-clause-ends g c =
    let rule = g.N.Nodes.rule in
    let A : State → Type 0 = StandsIn (g.N.Nodes.stands c.args.over.now.nodes) (g.M.Names.stands c.args.over.now.names) in
    let B : State → Type 0 = StandsIn (g.N.Nodes.stands c.finish_tree.new.over.nodes) (g.M.Names.stands c.finish_tree.new.over.names) in
    call_from A B rule (valued_at c.in-Some.promise.root.number.0) (λ (setting : Setting). waited_as c.finish_tree.result) (λ (setting : Setting). wait_done setting) _ _ _ _
    (λ setting s stands. sym (ap (λ a. wait_value_at setting a s) (c.in-Some.ensures s.world stands.1)))
    c.finish_tree.ensures.ends

pub returns-in-None-clause-ends : goal.returns-in-None-clause-ends
returns-in-None-clause-ends g c =
    let rule = g.N.Nodes.rule in
    let A : State → Type 0 = StandsIn (g.N.Nodes.stands c.args.over.now.nodes) (g.M.Names.stands c.args.over.now.names) in
    call_silent A A rule (λ (setting : Setting). wait_done setting) (λ (setting : Setting) (s : State). (s, WaitIdle)) _ _
    (λ answer s stands. record {
      state = s;
      stands = stands;
      past_is = refl;
      ends = sym (ap (λ a. wait_value_at (setting_of g.N.Nodes.rule answer) a s) (c.in-None.ensures s.world stands.1));
    })
