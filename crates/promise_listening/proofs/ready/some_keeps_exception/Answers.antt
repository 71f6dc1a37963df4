use Rattle.std.proofs.Common.{ℕ, ◌∙◌, sym, ◌<◌, arith}
use Rattle.kj_model.specs.Nodes.{form_at}
use Rattle.kj_model.specs.Listening.{keeps_exception}
use Rattle.promise_listening.proofs.Sides.{found_first, found_later}
use Rattle.promise_listening.proofs.ready.some_keeps_exception.Goals as goal

pub returns-then-side_keeps_exception : goal.returns-then-side_keeps_exception
returns-then-side_keeps_exception g c w st =
    let more : 0 < c.sides.left = omega (arith, c.sides-test.true) in
    found_first (λ (side : ℕ). keeps_exception (form_at side w.nodes)) c.sides.left c.sides.side.number.0 more (c.if-side_keeps_exception.ensures w st)
    ∙ sym (c.sides.invariant w st)

pub sides-preserved : goal.sides-preserved
sides-preserved g c w st =
    let more : 0 < c.sides.left = omega (arith, c.sides-test.true) in
    c.sides.invariant w st
    ∙ found_later (λ (side : ℕ). keeps_exception (form_at side w.nodes)) c.sides.left c.sides.side.number.0 c.next_side-side.result.number.0 more (c.if-side_keeps_exception.ensures w st) c.next_side-side.ensures
