use Rattle.std.proofs.Common.{◌≡◌}
use Rattle.http_heads.specs.Values.{elements_of_rest, left_of}
use Rattle.http_heads.proofs.list.next_element.Given as goal

abbrev pub invariant-loop-rest : goal.invariant-loop-rest
invariant-loop-rest l = elements_of_rest l.rest ≡ elements_of_rest l.fn.rest

abbrev pub decreases-loop-rest : goal.decreases-loop-rest
decreases-loop-rest l = left_of l.rest
