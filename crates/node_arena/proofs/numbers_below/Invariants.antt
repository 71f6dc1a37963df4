-- The numbers so far, and room for the rest.
use Rattle.std.proofs.Common.{◌≡◌, ◌≤◌}
use Rattle.std.specs.Prelude.{vec_capacity}
use Rattle.std.specs.List.{range_with_len}
use Rattle.node_arena.proofs.numbers_below.Given as goal

abbrev pub invariant-loop-number : goal.invariant-loop-number
invariant-loop-number l = record { numbers : l.numbers.items ≡ range_with_len 0 l.number; room : l.limit ≤ vec_capacity l.numbers }
