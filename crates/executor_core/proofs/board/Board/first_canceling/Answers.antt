use Rattle.std.proofs.Common.{sym, subst, List}
use Rattle.executor_core.specs.declared.request.Request.{Request}
use Rattle.executor_core.specs.Asks.{Asks}
use Rattle.executor_core.proofs.board.Board.first_canceling.Goals as goal

pub least-requires : goal.least-requires
least-requires c = let b = c.self.inside in (b.limit, subst (λ (l : List Request). Asks b.limit l b.asked) (sym c.as_slice.ensures.value) c.self.invariant.2.asks)

pub invariant_of-self : goal.invariant_of-self
invariant_of-self c = let b = c.self.inside in let i = c.self.invariant in let e = c.as_slice.ensures.value in let before = subst (λ (l : List Request). Asks b.limit l b.asked) (sym e) i.2.asks in (
  i.0,
  i.1,
  record {
    waits = i.2.waits;
    waiting_in = i.2.waiting_in;
    asks = subst (λ (l : List Request). Asks b.limit l c.least.new.self) e (c.least.ensures.kept b.limit before);
  },
)
