-- What is left is enough for the rest exactly where all are enough for all rows.
use Rattle.std.proofs.Common.{◌≡◌, drop}
use Rattle.std.specs.Prelude.{nat_le}
use Rattle.kj_base.specs.Places.{counts}
use Rattle.kj_base.specs.Store.{rows_of}
use Rattle.node_arena.specs.Needs.{needed}
use Rattle.node_arena.specs.Arenas.{slot_needs}
use Rattle.node_arena.proofs.are_enough.Given as goal

abbrev pub invariant-loop-row : goal.invariant-loop-row
invariant-loop-row l = record {
  needs : nat_le (needed (slot_needs l.cells.items) (rows_of (drop l.row-index l.rows))) l.arenas ≡ nat_le (needed (slot_needs l.fn.cells.items) (rows_of l.fn.rows)) l.fn.free;
  slots : nat_le (counts (rows_of (drop l.row-index l.rows))) l.left ≡ nat_le (counts (rows_of l.fn.rows)) l.fn.slots;
}
