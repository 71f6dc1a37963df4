use Rattle.std.proofs.Common.{◌≡◌, ℕ, ◌<◌, ◌≤◌, false}
use Rattle.http_heads.specs.Ending.{ends_lines}
use Rattle.http_heads.proofs.ending.brings_head.Given as goal

abbrev pub invariant-loop-k : goal.invariant-loop-k
invariant-loop-k l = (k : ℕ) → l.from ≤ k → k < l.k → ends_lines l.bytes k ≡ false
