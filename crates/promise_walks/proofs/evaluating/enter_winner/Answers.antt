use Rattle.std.proofs.Common.{◌≡◌, ◌∙◌, sym, ap, subst, refl, arith, ◌+◌, ◌-◌, ◌<◌, suc, length, List}
use Rattle.kj_model.specs.Nodes.{form_at}
use Rattle.kj_model.specs.Value.{value_to}
use Rattle.promise_walks.specs.declared.pending.Pending.{Pending}
use Rattle.promise_walks.specs.declared.pending.Pending.TheVariants.{Won}
use Rattle.promise_walks.specs.Climbs.{climb, cost, weigh}
use Rattle.promise_walks.proofs.Climbed.{down_push, one_more, side_fired}
use Rattle.promise_walks.proofs.evaluating.enter_winner.Goals as goal

pub returns-in-Fired-clause-same : goal.returns-in-Fired-clause-same
returns-in-Fired-clause-same g c setting s stands =
    let d = g.L.Land.slots c.args.land.now + 1 in
    let fs = c.args.stack.now.items in
    let k = g.L.Land.slots c.args.land.now - length fs in
    let e : d ≡ length fs + suc k = omega (arith, c.requires.bound) in
    let side = c.args.side in
    let tree = c.in-Fired.tree in
    let f : Pending = Won side tree in
    ap (climb setting d fs) (side_fired (value_to setting k) side.number.0 tree.number.0 (form_at side.number.0 s.world.nodes) s (c.in-Fired.ensures.look s.world stands))
    ∙ sym (down_push setting d k fs f tree.number.0 s e)
    ∙ ap (λ (l : List Pending). climb setting d l (value_to setting (d - length l) tree.number.0 s)) (sym c.put_last.ensures.items)

pub returns-in-Fired-clause-weight : goal.returns-in-Fired-clause-weight
returns-in-Fired-clause-weight g c =
    let d = g.L.Land.slots c.args.land.now + 1 in
    let fs = c.args.stack.now.items in
    let k = g.L.Land.slots c.args.land.now - length fs in
    let e : d ≡ length fs + suc k = omega (arith, c.requires.bound) in
    let f : Pending = Won c.args.side c.in-Fired.tree in
    subst (λ (l : List Pending). weigh d l + cost (d - length l) < weigh d fs + cost (d - length fs)) (sym c.put_last.ensures.items) (one_more d k fs f e refl)
