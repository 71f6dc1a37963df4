use Rattle.std.proofs.Common.{◌≡◌, length}
use Rattle.http_heads.specs.Left.{elements_left}
use Rattle.http_heads.proofs.list.ElementsIterator.next.Given as goal

abbrev pub invariant-loop-element : goal.invariant-loop-element
invariant-loop-element l = elements_left l.self ≡ elements_left l.fn.self

abbrev pub decreases-loop-element : goal.decreases-loop-element
decreases-loop-element l = length l.self.fields.now
