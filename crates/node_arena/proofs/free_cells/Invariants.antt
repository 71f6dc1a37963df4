-- The cells so far have no node.
use Rattle.std.proofs.Common.{◌≡◌, ℕ, length, false}
use Rattle.node_arena.specs.Arenas.{live_at}
use Rattle.node_arena.proofs.free_cells.Given as goal

abbrev pub invariant-loop : goal.invariant-loop
invariant-loop l = record { free : (slot : ℕ) → live_at l.cells.items slot ≡ false; size : length l.cells.items ≡ l.counter }
