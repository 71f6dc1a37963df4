use Rattle.std.proofs.Common.{◌≡◌, ◌++◌, length, take}
use Rattle.http_core.specs.Text.{all_chunks}
use Rattle.http_core.proofs.text.push_chunks.Given as goal

abbrev pub invariant-loop-rest : goal.invariant-loop-rest
invariant-loop-rest l = record {
  all : l.out ++ all_chunks l.rest ≡ l.fn.out ++ all_chunks l.fn.octets;
  front : take (length l.fn.out) l.out ≡ l.fn.out;
}

abbrev pub decreases-loop-rest : goal.decreases-loop-rest
decreases-loop-rest l = length l.rest
