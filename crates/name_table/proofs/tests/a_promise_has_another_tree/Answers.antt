use Rattle.std.proofs.Common.{arith}
use Rattle.name_table.specs.Table.{root_at}
use Rattle.name_table.proofs.Alone.{alone_apart}
use Rattle.name_table.proofs.tests.a_promise_has_another_tree.Goals as goal

pub set-requires-clause-room : goal.set-requires-clause-room
set-requires-clause-room g c = omega (arith, c.in_ok-names.ensures.no_names, c.in_ok-names.ensures.limit)

pub rename-requires : goal.rename-requires
rename-requires g c = record {
  apart = alone_apart (root_at c.in_ok-names.names) (root_at c.set.new.self) _ _ c.in_ok-names.ensures.no_promises c.set.ensures.root;
}
