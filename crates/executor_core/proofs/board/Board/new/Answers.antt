use Rattle.std.proofs.Common.{arith, ap, sym, refl, ◌≡◌, length, subst, List, []}
use Rattle.executor_core.specs.declared.request.Request.{Request}
use Rattle.executor_core.specs.Acts.{queued_state}
use Rattle.executor_core.specs.Chains.{marks}
use Rattle.executor_core.specs.Asks.{Linked}
use Rattle.executor_core.proofs.Links.{new_linked}
use Rattle.executor_core.proofs.board.Board.new.Goals as goal

pub invariant_of-result : goal.invariant_of-result
invariant_of-result c = let v = c.in_ok-with_capacity in let a = c.in_ok-new in let b = c.in_ok-new-2 in let limit = c.args.limit in let room = v.ensures.capacity in let e : v.field-0.items ≡ [] = v.ensures.items in let long = ap length e in (
  omega arith,
  omega arith,
  subst (λ (x : List Request). Linked limit x a.field-0 b.field-0) (sym e) (new_linked limit a.field-0 b.field-0 (a.ensures.chain (marks queued_state []) (λ k. refl)) a.ensures.bound b.ensures.numbers b.ensures.ordered b.ensures.room.0 b.ensures.room.1),
)
