use Rattle.std.proofs.Common.{heap_items}
use Rattle.executor_core.proofs.Asking.{top_in, top_under}
use Rattle.executor_core.proofs.asked.Asked.first.Goals as goal

pub returns-in-Some-clause-some : goal.returns-in-Some-clause-some
returns-in-Some-clause-some c order = let x = c.in-Some.first.now in let items = heap_items c.args.self.now.heap in let e = c.in-Some.ensures in
    (top_in (λ x. x.0) x items e.item.3.0 e.lookup, top_under (λ x. x.0) x items (e.greatest order))
