use Rattle.std.proofs.Common.{◌≡◌, ap, sym, subst, ◌∙◌, ◌-◌, ◌+◌, ◌<◌, ◌++◌, ℕ, List, [], length, arith}
use Rattle.std.proofs.lemmas.Bool.Decides.{nat_tests}
use Rattle.kj_model.specs.Free.{Holding}
use Rattle.kj_model.specs.Falling.{falling}
use Rattle.promise_walks.specs.declared.freeing.Frame.{Frame}
use Rattle.promise_walks.specs.Stacks.{weigh, cost}
use Rattle.promise_walks.specs.Falls.{way_of, all_gone, Leads}
use Rattle.promise_walks.proofs.Finished.{pushed_weight}
use Rattle.promise_walks.proofs.Fallen.{falling_zero, falling_none, led_by_none, led_on, live_left}
use Rattle.promise_walks.proofs.falling.look_at.Goals as goal

pub returns-then-is_deep-clause-leads : goal.returns-then-is_deep-clause-leads
returns-then-is_deep-clause-leads g c w gone stands marks there =
    let d = g.N.Nodes.slots c.args.nodes.now + 1 in
    let fs = c.args.frames.now.items in
    let n = c.args.node.number.0 in
    let zero_left : d - length fs ≡ 0 = grind (arith, nat_tests, c.if-is_deep.true, c.is_deep.ensures, c.slots.ensures, c.len.ensures) in
    led_by_none w d (d - length fs) _ fs gone n marks there
    (ap (λ (j : ℕ). falling (Holding []) w j (way_of w [] fs) gone n) zero_left ∙ falling_zero w (way_of w [] fs) gone n)

pub returns-in_default-clause-leads : goal.returns-in_default-clause-leads
returns-in_default-clause-leads g c w gone stands marks there =
    let d = g.N.Nodes.slots c.args.nodes.now + 1 in
    let fs = c.args.frames.now.items in
    let n = c.args.node.number.0 in
    led_by_none w d (d - length fs) _ fs gone n marks there
    (falling_none w (d - length fs) (way_of w [] fs) gone n (c.in_default.ensures w (way_of w [] fs) gone stands marks))

pub returns-clause-leads : goal.returns-clause-leads
returns-clause-leads g c w gone stands marks there =
    let d = g.N.Nodes.slots c.args.nodes.now + 1 in
    let fs = c.args.frames.now.items in
    let n = c.args.node.number.0 in
    let way = way_of w [] fs in
    let within : length fs < d = grind (arith, nat_tests, c.if-is_deep.false, c.is_deep.ensures, c.slots.ensures, c.len.ensures) in
    let sees = c.in-Some.ensures w way gone stands marks in
    subst (λ (l : List Frame). Leads w d (g.N.Nodes.marks c.enter-frame.new.nodes) l (all_gone w d [] fs (gone ++ falling (Holding []) w (d - length fs) way gone n))) (sym c.put_last.ensures.items)
    (led_on w d _ fs c.enter-frame.result gone n within there (live_left _ _ sees.1) (c.enter-frame.ensures.enters w way gone stands marks sees.0 sees.1))

pub returns-clause-weight : goal.returns-clause-weight
returns-clause-weight g c =
    let d = g.N.Nodes.slots c.args.nodes.now + 1 in
    let fs = c.args.frames.now.items in
    let within : length fs < d = grind (arith, nat_tests, c.if-is_deep.false, c.is_deep.ensures, c.slots.ensures, c.len.ensures) in
    subst (λ (l : List Frame). weigh d l < weigh d fs + cost (d - length fs)) (sym c.put_last.ensures.items) (pushed_weight d fs c.enter-frame.result within (omega arith))
