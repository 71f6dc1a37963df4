use Rattle.std.proofs.Common.{◌≡◌, ◌∙◌, sym, ap, ◌-◌, suc, ℕ, arith}
use Rattle.kj_model.specs.Listening.{is_last}
use Rattle.promise_listening.proofs.ready.is_last.Goals as goal

pub returns-in-Now : goal.returns-in-Now
returns-in-Now g c w st =
    let up : c.down.left ≡ suc (c.down.left - 1) = omega (arith, c.down-test.true) in
    sym (c.down.invariant w st ∙ ap (λ (j : ℕ). is_last j w.nodes c.down.at.number.0) up ∙ c.in-Now.ensures w st (is_last (c.down.left - 1) w.nodes))

pub down-preserved : goal.down-preserved
down-preserved g c w st =
    let up : c.down.left ≡ suc (c.down.left - 1) = omega (arith, c.down-test.true) in
    c.down.invariant w st ∙ ap (λ (j : ℕ). is_last j w.nodes c.down.at.number.0) up ∙ c.in-Below.ensures w st (is_last (c.down.left - 1) w.nodes)
