use Rattle.std.proofs.Common.{◌≡◌, ◌∙◌, ◌++◌, ◌∷◌, [], ap, sym, arith, ◌+◌}
use Rattle.std.specs.List.{range_with_len}
use Rattle.node_arena.proofs.Freed.{range_more}
use Rattle.node_arena.proofs.numbers_below.Goals as goal

pub loop-number-preserved : goal.loop-number-preserved
loop-number-preserved c =
    let n : 0 + c.loop-number.number ≡ c.loop-number.number = omega arith in
    record {
      numbers =
          c.in_ok-push.ensures.items
          ∙ ap (λ xs. xs ++ c.loop-number.number ∷ []) c.loop-number.invariant.numbers
          ∙ sym (range_more 0 c.loop-number.number ∙ ap (λ k. range_with_len 0 c.loop-number.number ++ k ∷ []) n);
      room = omega (arith, c.in_ok-push.ensures.capacity, c.loop-number.invariant.room);
    }
