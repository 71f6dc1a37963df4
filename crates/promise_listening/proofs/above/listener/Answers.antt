use Rattle.std.proofs.Common.{◌≡◌, ◌∙◌, ap, ◌-◌, ◌+◌, suc, ℕ, arith}
use Rattle.kj_model.specs.Listening.{listener_from}
use Rattle.promise_listening.proofs.above.listener.Goals as goal

pub returns-in-Found-clause-listener : goal.returns-in-Found-clause-listener
returns-in-Found-clause-listener g c w st live =
    let up : c.up.left ≡ suc (c.up.left - 1) = omega (arith, c.up-test.true) in
    let n = c.args.node.number.0 in
    ap (λ (j : ℕ). listener_from (j + 1) w n) (g.met.N.Nodes.slots_are c.args.nodes.now w st)
    ∙ c.up.invariant.climbed w st live
    ∙ ap (λ (j : ℕ). listener_from j w c.up.at.number.0) up
    ∙ c.in-Found.ensures.above w st (c.up.invariant.live w st live) (listener_from (c.up.left - 1) w)

pub returns-in-Found-clause-event : goal.returns-in-Found-clause-event
returns-in-Found-clause-event g c w st live = c.in-Found.ensures.event w st (c.up.invariant.live w st live)

pub up-preserved : goal.up-preserved
up-preserved g c =
    let up : c.up.left ≡ suc (c.up.left - 1) = omega (arith, c.up-test.true) in
    record {
      climbed = λ w st live. c.up.invariant.climbed w st live
          ∙ ap (λ (j : ℕ). listener_from j w c.up.at.number.0) up
          ∙ c.in-Higher.ensures.above w st (c.up.invariant.live w st live) (listener_from (c.up.left - 1) w);
      live = λ w st live. c.in-Higher.ensures.event w st (c.up.invariant.live w st live);
    }

pub returns-clause-listener : goal.returns-clause-listener
returns-clause-listener g c w st live =
    let n = c.args.node.number.0 in
    let none : c.up.left ≡ 0 = omega (arith, c.up-test.false) in
    ap (λ (j : ℕ). listener_from (j + 1) w n) (g.met.N.Nodes.slots_are c.args.nodes.now w st)
    ∙ c.up.invariant.climbed w st live
    ∙ ap (λ (j : ℕ). listener_from j w c.up.at.number.0) none
