use Rattle.std.proofs.Common.{◌≡◌, length, take}
use Rattle.promise_commands.specs.Commands.{name_numbers}
use Rattle.promise_nodes.specs.Kept.{rows_seen}
use Rattle.promise_apply.specs.Joining.{rows_before}
use Rattle.promise_apply.proofs.applying.joined_rows.Given as goal

abbrev pub invariant-loop-source : goal.invariant-loop-source
invariant-loop-source g l = record {
  rows : rows_seen l.rows.items ≡ rows_before (g.M.Names.roots l.names) (name_numbers (take l.source-index l.wanted));
  few : length l.rows.items ≡ l.source-index;
}
