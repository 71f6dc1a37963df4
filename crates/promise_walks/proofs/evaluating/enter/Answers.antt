use Rattle.std.proofs.Common.{◌≡◌, ◌∙◌, sym, ap, subst, refl, arith, ◌+◌, ◌-◌, ◌<◌, ℕ, suc, length, List, Some}
use Rattle.std.proofs.lemmas.Bool.Decides.{nat_tests}
use Rattle.kj_base.specs.declared.outcomes.Outcome.{Outcome}
use Rattle.kj_model.specs.Nodes.{form_at}
use Rattle.kj_model.specs.Value.{value_to}
use Rattle.promise_walks.specs.declared.pending.Continuation.{Continuation}
use Rattle.promise_walks.specs.declared.pending.Pending.{Pending}
use Rattle.promise_walks.specs.declared.pending.Pending.TheVariants.{Then}
use Rattle.promise_walks.specs.declared.sums.Sum.{Sum}
use Rattle.promise_walks.specs.Shapes.{numbers_of}
use Rattle.promise_walks.specs.Climbs.{ArePlain, all_summed, climb, cost, weigh}
use Rattle.promise_walks.proofs.Climbed.{cost_more, down_push, one_more, plain_push, sides_fit, value_branch, value_here, value_kept, value_none, value_sides, value_then}
use Rattle.promise_walks.proofs.evaluating.enter.Goals as goal

pub returns-then-is_deep-clause-same : goal.returns-then-is_deep-clause-same
returns-then-is_deep-clause-same g c setting s stands =
    let d = g.L.Land.slots c.args.land.now + 1 in
    let fs = c.args.stack.now.items in
    let n = c.args.node.number.0 in
    let none_left : d - length fs ≡ 0 = grind (arith, nat_tests, c.if-is_deep.true, c.is_deep.ensures, c.slots.ensures, c.len.ensures) in
    ap (λ (j : ℕ). climb setting d fs (value_to setting j n s)) none_left
    ∙ ap (climb setting d fs) (value_none setting n s ∙ ap (λ (o : Outcome). (s, Some o)) (sym c.void.ensures))

pub returns-in-Known-clause-same : goal.returns-in-Known-clause-same
returns-in-Known-clause-same g c setting s stands =
    let d = g.L.Land.slots c.args.land.now + 1 in
    let fs = c.args.stack.now.items in
    let k = g.L.Land.slots c.args.land.now - length fs in
    let n = c.args.node.number.0 in
    let within : length fs < d = grind (arith, nat_tests, c.if-is_deep.false, c.is_deep.ensures, c.slots.ensures, c.len.ensures) in
    let here : d - length fs ≡ suc k = omega (arith, within) in
    ap (λ (j : ℕ). climb setting d fs (value_to setting j n s)) here
    ∙ ap (climb setting d fs) (value_here setting k n s ∙ c.in-Known.ensures.look s.world stands setting (value_to setting k) n s)

pub returns-in-Known-clause-weight : goal.returns-in-Known-clause-weight
returns-in-Known-clause-weight g c =
    let d = g.L.Land.slots c.args.land.now + 1 in
    let fs = c.args.stack.now.items in
    let k = g.L.Land.slots c.args.land.now - length fs in
    let within : length fs < d = grind (arith, nat_tests, c.if-is_deep.false, c.is_deep.ensures, c.slots.ensures, c.len.ensures) in
    let h = cost_more d k fs (omega (arith, within)) in
    omega (arith, h)

pub returns-in-Branch-clause-same : goal.returns-in-Branch-clause-same
returns-in-Branch-clause-same g c setting s stands =
    let d = g.L.Land.slots c.args.land.now + 1 in
    let fs = c.args.stack.now.items in
    let k = g.L.Land.slots c.args.land.now - length fs in
    let n = c.args.node.number.0 in
    let within : length fs < d = grind (arith, nat_tests, c.if-is_deep.false, c.is_deep.ensures, c.slots.ensures, c.len.ensures) in
    let here : d - length fs ≡ suc k = omega (arith, within) in
    ap (λ (j : ℕ). climb setting d fs (value_to setting j n s)) here
    ∙ ap (climb setting d fs) (value_here setting k n s
    ∙ value_branch setting (value_to setting k) n c.in-Branch.hub.number.0 (form_at n s.world.nodes) s (c.in-Branch.ensures.look s.world stands)
    ∙ ap (λ (o : Outcome). (s, Some o)) (c.hub_outcome.ensures s.world stands))

pub returns-in-Branch-clause-weight : goal.returns-in-Branch-clause-weight
returns-in-Branch-clause-weight g c =
    let d = g.L.Land.slots c.args.land.now + 1 in
    let fs = c.args.stack.now.items in
    let k = g.L.Land.slots c.args.land.now - length fs in
    let within : length fs < d = grind (arith, nat_tests, c.if-is_deep.false, c.is_deep.ensures, c.slots.ensures, c.len.ensures) in
    let h = cost_more d k fs (omega (arith, within)) in
    omega (arith, h)

pub returns-in-Then-clause-same : goal.returns-in-Then-clause-same
returns-in-Then-clause-same g c setting s stands =
    let d = g.L.Land.slots c.args.land.now + 1 in
    let fs = c.args.stack.now.items in
    let k = g.L.Land.slots c.args.land.now - length fs in
    let n = c.args.node.number.0 in
    let within : length fs < d = grind (arith, nat_tests, c.if-is_deep.false, c.is_deep.ensures, c.slots.ensures, c.len.ensures) in
    let here : d - length fs ≡ suc k = omega (arith, within) in
    let p = c.in-Then in
    let then : Continuation = record { node = c.args.node; value = p.value; error = p.error; tree = p.tree } in
    let f : Pending = Then then in
    ap (λ (j : ℕ). climb setting d fs (value_to setting j n s)) here
    ∙ ap (climb setting d fs) (value_here setting k n s ∙ value_then setting k then (form_at n s.world.nodes) s (p.ensures.look s.world stands))
    ∙ sym (down_push setting d k fs f p.tree.number.0 s (omega (arith, within)))
    ∙ ap (λ (l : List Pending). climb setting d l (value_to setting (d - length l) p.tree.number.0 s)) (sym c.put_last.ensures.items)

pub returns-in-Then-clause-weight : goal.returns-in-Then-clause-weight
returns-in-Then-clause-weight g c =
    let d = g.L.Land.slots c.args.land.now + 1 in
    let fs = c.args.stack.now.items in
    let k = g.L.Land.slots c.args.land.now - length fs in
    let within : length fs < d = grind (arith, nat_tests, c.if-is_deep.false, c.is_deep.ensures, c.slots.ensures, c.len.ensures) in
    let p = c.in-Then in
    let then : Continuation = record { node = c.args.node; value = p.value; error = p.error; tree = p.tree } in
    subst (λ (l : List Pending). weigh d l + cost (d - length l) < weigh d fs + cost (d - length fs)) (sym c.put_last.ensures.items) (one_more d k fs (Then then) (omega (arith, within)) refl)

pub returns-in-Then-clause-plain : goal.returns-in-Then-clause-plain
returns-in-Then-clause-plain g c =
    let is_plain = g.L.Land.is_plain c.args.land.now in
    let p = c.in-Then in
    let then : Continuation = record { node = c.args.node; value = p.value; error = p.error; tree = p.tree } in
    subst (λ (l : List Pending). ArePlain is_plain l) (sym c.put_last.ensures.items) (plain_push is_plain c.args.stack.now.items (Then then) c.requires.plain p.ensures.plain)

pub returns-in-Winner-clause-same : goal.returns-in-Winner-clause-same
returns-in-Winner-clause-same g c setting s stands =
    let d = g.L.Land.slots c.args.land.now + 1 in
    let fs = c.args.stack.now.items in
    let k = g.L.Land.slots c.args.land.now - length fs in
    let n = c.args.node.number.0 in
    let within : length fs < d = grind (arith, nat_tests, c.if-is_deep.false, c.is_deep.ensures, c.slots.ensures, c.len.ensures) in
    let here : d - length fs ≡ suc k = omega (arith, within) in
    ap (λ (j : ℕ). climb setting d fs (value_to setting j n s)) here
    ∙ ap (climb setting d fs) (value_here setting k n s ∙ c.in-Winner.ensures.look s.world stands setting (value_to setting k) n s)
    ∙ c.enter_winner.ensures.same setting s stands

pub returns-in-Kept-clause-same : goal.returns-in-Kept-clause-same
returns-in-Kept-clause-same g c setting s stands =
    let d = g.L.Land.slots c.args.land.now + 1 in
    let fs = c.args.stack.now.items in
    let k = g.L.Land.slots c.args.land.now - length fs in
    let n = c.args.node.number.0 in
    let within : length fs < d = grind (arith, nat_tests, c.if-is_deep.false, c.is_deep.ensures, c.slots.ensures, c.len.ensures) in
    let here : d - length fs ≡ suc k = omega (arith, within) in
    ap (λ (j : ℕ). climb setting d fs (value_to setting j n s)) here
    ∙ ap (climb setting d fs) (value_here setting k n s
    ∙ value_kept setting (value_to setting k) n (numbers_of c.in-Kept.sides) (form_at n s.world.nodes) s (c.in-Kept.ensures.look s.world stands)
    ∙ ap (λ (o : Outcome). (s, Some o)) (c.join_kept.ensures s.world stands))

pub returns-in-Kept-clause-weight : goal.returns-in-Kept-clause-weight
returns-in-Kept-clause-weight g c =
    let d = g.L.Land.slots c.args.land.now + 1 in
    let fs = c.args.stack.now.items in
    let k = g.L.Land.slots c.args.land.now - length fs in
    let within : length fs < d = grind (arith, nat_tests, c.if-is_deep.false, c.is_deep.ensures, c.slots.ensures, c.len.ensures) in
    let h = cost_more d k fs (omega (arith, within)) in
    omega (arith, h)

pub returns-in-Sides-clause-same : goal.returns-in-Sides-clause-same
returns-in-Sides-clause-same g c setting s stands =
    let d = g.L.Land.slots c.args.land.now + 1 in
    let fs = c.args.stack.now.items in
    let k = g.L.Land.slots c.args.land.now - length fs in
    let n = c.args.node.number.0 in
    let within : length fs < d = grind (arith, nat_tests, c.if-is_deep.false, c.is_deep.ensures, c.slots.ensures, c.len.ensures) in
    let here : d - length fs ≡ suc k = omega (arith, within) in
    let sides = numbers_of c.in-Sides.sides in
    ap (λ (j : ℕ). climb setting d fs (value_to setting j n s)) here
    ∙ ap (climb setting d fs) (value_here setting k n s
    ∙ value_sides setting (value_to setting k) n sides (form_at n s.world.nodes) s (c.in-Sides.ensures.look s.world stands)
    ∙ ap (λ (z : Sum). all_summed (value_to setting k) z sides s) (sym c.no_sum.ensures))
    ∙ c.go_through.ensures.same setting s stands

pub returns-in-Sides-clause-weight : goal.returns-in-Sides-clause-weight
returns-in-Sides-clause-weight g c =
    let d = g.L.Land.slots c.args.land.now + 1 in
    let fs = c.args.stack.now.items in
    let k = g.L.Land.slots c.args.land.now - length fs in
    let within : length fs < d = grind (arith, nat_tests, c.if-is_deep.false, c.is_deep.ensures, c.slots.ensures, c.len.ensures) in
    let fits = sides_fit d k fs c.in-Sides.sides.count (omega (arith, within)) (omega arith) in
    omega (arith, c.go_through.ensures.weight, fits)
