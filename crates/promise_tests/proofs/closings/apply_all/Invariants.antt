use Rattle.std.proofs.Common.{◌≡◌}
use Rattle.name_table.specs.Table.{trees}
use Rattle.promise_tests.proofs.closings.apply_all.Given as goal

abbrev pub invariant-applying : goal.invariant-applying
invariant-applying l = trees l.over.names.over ≡ trees l.initial.over.names.over
