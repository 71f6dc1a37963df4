-- The slots so far aren't live.
use Rattle.std.proofs.Common.{◌≡◌, ◌+◌, ◌<◌, ℕ, false}
use Rattle.node_arena.specs.Arenas.{live_at}
use Rattle.node_arena.proofs.is_unused.Given as goal

abbrev pub invariant-loop-place : goal.invariant-loop-place
invariant-loop-place l = (k : ℕ) → k < l.place → live_at l.cells.items (l.first + k) ≡ false
