use Rattle.std.proofs.Common.{◌∙◌, sym, ap, arith, List, ℕ, ◌++◌}
use Rattle.kj_base.specs.declared.outcomes.Outcome.{Outcome}
use Rattle.kj_model.specs.Value.{kept_in}
use Rattle.promise_walks.specs.declared.sums.Sum.{Sum}
use Rattle.promise_walks.specs.Shapes.{numbers_of}
use Rattle.promise_walks.proofs.Summed.{total_after, joined_is, total_kept}
use Rattle.promise_walks.proofs.Climbed.{numbers_next, numbers_none}
use Rattle.promise_walks.proofs.joining.join_kept.Goals as goal

pub joining-init : goal.joining-init
joining-init g c = record {
  same = λ w stands. joined_is (kept_in w.nodes (numbers_of c.args.sides)) ∙ ap (λ (z : Sum). total_after z (kept_in w.nodes (numbers_of c.args.sides))) (sym c.no_sum-sum.ensures);
}

pub joining-preserved : goal.joining-preserved
joining-preserved g c =
    let sum = c.joining.sum in
    let left = c.rest-left.result in
    record {
      same = λ w stands. c.joining.invariant.same w stands
          ∙ ap (λ (ns : List ℕ). total_after sum (kept_in w.nodes ns)) (numbers_next c.joining.left left c.rest-left.ensures.count c.rest-left.ensures.next)
          ∙ ap (λ (os : List Outcome). total_after sum (os ++ kept_in w.nodes (numbers_of left))) (c.kept.ensures w stands)
          ∙ total_kept sum c.kept.result (kept_in w.nodes (numbers_of left))
          ∙ ap (λ (z : Sum). total_after z (kept_in w.nodes (numbers_of left))) (sym c.plus_kept-sum.ensures);
    }

pub returns : goal.returns
returns g c w stands =
    c.joining.invariant.same w stands
    ∙ ap (λ (ns : List ℕ). total_after c.joining.sum (kept_in w.nodes ns)) (numbers_none c.joining.left (omega (arith, c.joining-test.false)))
    ∙ sym c.total.ensures
