use Rattle.std.proofs.Common.{heap_items}
use Rattle.executor_core.proofs.Asking.{pop_takes}
use Rattle.executor_core.proofs.asked.Asked.forget_first.Goals as goal

pub returns-clause-numbers : goal.returns-clause-numbers
returns-clause-numbers c r order low = let e = c.pop-first.ensures in
    pop_takes (λ x. x.0) (heap_items c.args.self.now.heap) (heap_items c.pop-first.new.self) c.pop-first.result (e.variant.1 c.requires) e.permutation e.heap_order order r low
