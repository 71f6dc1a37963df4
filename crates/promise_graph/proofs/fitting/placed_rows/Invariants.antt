-- The rows placed so far.
use Rattle.std.proofs.Common.{◌≡◌, take, map, length}
use Rattle.kj_base.specs.Store.{rows_of}
use Rattle.promise_nodes.specs.Kept.{rows_seen}
use Rattle.promise_graph.specs.Rows.{row_at}
use Rattle.promise_graph.proofs.fitting.placed_rows.Given as goal

abbrev pub invariant-placing : goal.invariant-placing
invariant-placing g l = (length l.placed ≡ 16) × (rows_of (take l.at l.placed) ≡ map (row_at l.g.marks) (rows_seen (take l.at l.rows)))
