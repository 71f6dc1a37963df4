use Rattle.std.proofs.Common.{◌≡◌, ◌∙◌, sym, ap, subst, arith, ◌+◌, ◌-◌, ◌*◌, ◌≤◌, ◌++◌, ◌∷◌, [], ℕ, suc, length, List, Some}
use Rattle.kj_base.specs.declared.outcomes.Outcome.{Outcome}
use Rattle.kj_model.specs.Value.{value_to}
use Rattle.promise_walks.specs.declared.pending.Pending.{Pending}
use Rattle.promise_walks.specs.declared.pending.Pending.TheVariants.{Part}
use Rattle.promise_walks.specs.Climbs.{all_summed, climb, cost, weigh}
use Rattle.promise_walks.proofs.Climbed.{down_push, numbers_next, numbers_none, part_fits, summed_part}
use Rattle.promise_walks.proofs.joining.go_through.Goals as goal

pub returns-in-Err-clause-same : goal.returns-in-Err-clause-same
returns-in-Err-clause-same g c setting s stands =
    let d = g.L.Land.slots c.args.land.now + 1 in
    let fs = c.args.stack.now.items in
    let k = g.L.Land.slots c.args.land.now - length fs in
    let e : d ≡ length fs + suc k = omega (arith, c.requires.bound) in
    let before = c.through.invariant in
    let side = c.through.left.next in
    let behind = c.rest-behind.result in
    let tree = c.in-Err.tree in
    let f : Pending = Part side tree behind c.through.sum in
    let items : c.take_side.new.stack.items ≡ fs ++ f ∷ [] = c.in-Err.ensures.stack ∙ ap (λ (l : List Pending). l ++ f ∷ []) before.items in
    ap (climb setting d fs) (before.same (value_to setting k) s stands
    ∙ ap (λ (ns : List ℕ). all_summed (value_to setting k) c.through.sum ns s) (numbers_next c.through.left behind c.rest-behind.ensures.count c.rest-behind.ensures.next)
    ∙ summed_part setting k c.through.sum side tree behind s (c.in-Err.ensures.taken (value_to setting k) s stands))
    ∙ sym (down_push setting d k fs f tree.number.0 s e)
    ∙ ap (λ (l : List Pending). climb setting d l (value_to setting (d - length l) tree.number.0 s)) (sym items)

pub returns-in-Err-clause-weight : goal.returns-in-Err-clause-weight
returns-in-Err-clause-weight g c =
    let d = g.L.Land.slots c.args.land.now + 1 in
    let fs = c.args.stack.now.items in
    let k = g.L.Land.slots c.args.land.now - length fs in
    let e : d ≡ length fs + suc k = omega (arith, c.requires.bound) in
    let behind = c.rest-behind.result in
    let f : Pending = Part c.through.left.next c.in-Err.tree behind c.through.sum in
    let items : c.take_side.new.stack.items ≡ fs ++ f ∷ [] = c.in-Err.ensures.stack ∙ ap (λ (l : List Pending). l ++ f ∷ []) c.through.invariant.items in
    subst (λ (l : List Pending). weigh d l + cost (d - length l) ≤ weigh d fs + c.args.sides.count * (cost k + 1)) (sym items)
    (part_fits d k fs c.through.left.next c.in-Err.tree behind c.args.sides.count c.through.sum e (omega (arith, c.rest-behind.ensures.count, c.through.invariant.left)))

pub through-preserved : goal.through-preserved
through-preserved g c =
    let before = c.through.invariant in
    let behind = c.rest-behind.result in
    record {
      items = c.in-Ok.ensures.stack ∙ before.items;
      plain = c.in-Ok.ensures.plain;
      room = omega (arith, c.in-Ok.ensures.room, before.room);
      left = omega (arith, before.left, c.rest-behind.ensures.count);
      same = λ value s stands. before.same value s stands
          ∙ ap (λ (ns : List ℕ). all_summed value c.through.sum ns s) (numbers_next c.through.left behind c.rest-behind.ensures.count c.rest-behind.ensures.next)
          ∙ c.in-Ok.ensures.taken value s stands;
    }

pub returns-clause-same : goal.returns-clause-same
returns-clause-same g c setting s stands =
    let d = g.L.Land.slots c.args.land.now + 1 in
    let fs = c.args.stack.now.items in
    let k = g.L.Land.slots c.args.land.now - length fs in
    let before = c.through.invariant in
    ap (climb setting d fs) (before.same (value_to setting k) s stands
    ∙ ap (λ (ns : List ℕ). all_summed (value_to setting k) c.through.sum ns s) (numbers_none c.through.left (omega (arith, c.through-test.false)))
    ∙ ap (λ (o : Outcome). (s, Some o)) (sym c.total.ensures))
    ∙ ap (λ (l : List Pending). climb setting d l (s, Some c.total.result)) (sym before.items)
