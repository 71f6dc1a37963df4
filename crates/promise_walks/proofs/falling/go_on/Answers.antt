use Rattle.std.proofs.Common.{◌≡◌, ap, subst, ◌-◌, ◌+◌, ◌∷◌, List, [], length, arith, refl}
use Rattle.std.proofs.lemmas.List.{length-append}
use Rattle.promise_walks.specs.declared.freeing.Frame.{Frame}
use Rattle.promise_walks.specs.Stacks.{weigh, cost}
use Rattle.promise_walks.proofs.Finished.{weight_falls, weight_gone}
use Rattle.promise_walks.proofs.Fallen.{Looks, led_gone, led_next, there_pop}
use Rattle.promise_walks.proofs.falling.go_on.Goals as goal

pub returns-then-frame-eq0-clause-leads : goal.returns-then-frame-eq0-clause-leads
returns-then-frame-eq0-clause-leads g c w end stands leads =
    let fs = c.args.frames.now.items in
    led_gone w (g.N.Nodes.slots c.args.nodes.now + 1) _ _ fs c.args.frame end (omega (arith, c.requires.bound)) c.if-frame-eq0.true
    (c.mark.ensures.marks w stands (there_pop w fs c.args.frame leads.there).1) leads

pub returns-then-frame-eq0-clause-weight : goal.returns-then-frame-eq0-clause-weight
returns-then-frame-eq0-clause-weight g c = weight_gone (g.N.Nodes.slots c.args.nodes.now + 1) c.args.frames.now.items c.args.frame (omega (arith, c.requires.bound))

pub returns-clause-leads : goal.returns-clause-leads
returns-clause-leads g c w end stands leads =
    let d = g.N.Nodes.slots c.args.nodes.now + 1 in
    let fs = c.args.frames.now.items in
    let f = c.args.frame in
    let h : Frame = record { node = f.node; parts = c.rest.result; leaving = f.leaving } in
    led_next w d _ _ fs _ f h end (omega (arith, c.requires.bound)) c.rest.ensures.count c.rest.ensures.next refl
    (subst (λ (l : List Frame). Looks w d (g.N.Nodes.marks c.args.nodes.now) (g.N.Nodes.marks c.look_at.new.nodes) l c.look_at.new.frames.items f.parts.next.number.0) c.put_last.ensures.items
    (λ gone marks there. c.look_at.ensures.leads w gone stands marks there)) leads

pub returns-clause-weight : goal.returns-clause-weight
returns-clause-weight g c =
    let f = c.args.frame in
    let d = g.N.Nodes.slots c.args.nodes.now + 1 in
    let fs = c.args.frames.now.items in
    let h : Frame = record { node = f.node; parts = c.rest.result; leaving = f.leaving } in
    let len : d - length c.put_last.new.items.items ≡ d - length fs - 1 = omega (arith, ap length c.put_last.ensures.items, length-append fs (h ∷ [])) in
    let e = weight_falls d fs f h (omega (arith, c.requires.bound)) c.rest.ensures.count in
    let p = ap (weigh d) c.put_last.ensures.items in
    omega (arith, c.look_at.ensures.weight, e, p, ap cost len)
