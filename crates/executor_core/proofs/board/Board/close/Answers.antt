use Rattle.std.proofs.Common.{arith, ap, sym, ◌∙◌, length, subst, List}
use Rattle.std.proofs.lemmas.List.{length-map}
use Rattle.executor_core.specs.declared.request.Request.{Request}
use Rattle.executor_core.specs.Acts.{shut}
use Rattle.executor_core.specs.Asks.{Linked}
use Rattle.executor_core.proofs.Links.{close_linked}
use Rattle.executor_core.proofs.board.Board.close.Goals as goal

pub invariant_of-self : goal.invariant_of-self
invariant_of-self c = let b = c.self.inside in let i = c.self.invariant in let rs : List Request = b.requests.items in let e = c.shut_all.ensures in
    let long = ap length e.items ∙ length-map rs shut in let fits = i.0 in let room = i.1 in let same = e.room in (
      omega arith,
      omega arith,
      subst (λ (x : List Request). Linked b.limit x c.clear.new.self b.asked) (sym e.items) (close_linked b.limit rs b.waiting c.clear.new.self b.asked i.2 c.clear.ensures.chain c.clear.ensures.bound),
    )
