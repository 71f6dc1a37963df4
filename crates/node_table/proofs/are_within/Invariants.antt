-- What is left is enough for the rest exactly where all slots are enough for all rows.
use Rattle.std.proofs.Common.{◌≡◌, drop}
use Rattle.std.specs.Prelude.{nat_le}
use Rattle.kj_base.specs.Places.{counts}
use Rattle.kj_base.specs.Store.{rows_of}
use Rattle.node_table.proofs.are_within.Given as goal

abbrev pub invariant-loop-row : goal.invariant-loop-row
invariant-loop-row l = nat_le (counts (rows_of (drop l.row-index l.rows))) l.left ≡ nat_le (counts (rows_of l.fn.rows)) l.fn.slots
