use Rattle.std.proofs.Common.{◌≡◌, ℕ, ◌<◌, ◌≤◌, false}
use Rattle.http_heads.specs.Ending.{stops_line}
use Rattle.http_heads.proofs.ending.first_stop.Given as goal

abbrev pub invariant-loop-k : goal.invariant-loop-k
invariant-loop-k l = (k : ℕ) → l.from ≤ k → k < l.k → stops_line l.bytes k ≡ false
