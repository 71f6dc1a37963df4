use Rattle.std.proofs.Common.{◌≤◌, length}
use Rattle.name_table.specs.Table.{trees}
use Rattle.promise_tests.proofs.calls.make_all.Given as goal

abbrev pub invariant-loop-call : goal.invariant-loop-call
invariant-loop-call l = length (trees l.over.names.over) ≤ 1
