use Rattle.std.proofs.Common.{◌≡◌, ℕ, ◌<◌, ◌≤◌, false}
use Rattle.http_heads.specs.Ending.{ends_empty_line}
use Rattle.http_heads.proofs.ending.brings_section.Given as goal

abbrev pub invariant-loop-k : goal.invariant-loop-k
invariant-loop-k l = (k : ℕ) → l.from ≤ k → k < l.k → ends_empty_line l.bytes k ≡ false
