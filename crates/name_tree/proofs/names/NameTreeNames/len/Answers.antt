use Rattle.std.proofs.Common.{ap, subst, sym, arith}
use Rattle.name_table.proofs.Names.{as_many}
use Rattle.name_table.specs.Table.{Table, Stands, count_of}
use Rattle.name_tree.specs.Kept.{view_of}
use Rattle.name_tree.specs.Listed.{listed}
use Rattle.name_tree.proofs.Counts.{held_few}
use Rattle.name_tree.proofs.Rises.{length_listed}
use Rattle.name_tree.proofs.names.NameTreeNames.len.Goals as goal

pub returns-clause-count : goal.returns-clause-count
returns-clause-count c =
    let is = ap count_of c.self.view_is in
    omega (arith, is, length_listed c.self.inside.names.tree, c.self.invariant.all, c.len.ensures)

pub returns-clause-awaited : goal.returns-clause-awaited
returns-clause-awaited c =
    let is = ap count_of c.self.view_is in
    let few = held_few c.self.inside.awaited in
    omega (arith, is, few, length_listed c.self.inside.names.tree, c.self.invariant.all, c.len.ensures)

pub returns-clause-names : goal.returns-clause-names
returns-clause-names c w st =
    let inner : Stands (view_of c.self.inside) w = subst (λ (t : Table). Stands t w) (sym c.self.view_is) st in
    let many = as_many (listed c.self.inside.names.tree) w.names inner.names in
    omega (arith, many, length_listed c.self.inside.names.tree, c.self.invariant.all, c.len.ensures)

pub returns-clause-bound : goal.returns-clause-bound
returns-clause-bound c = omega (arith, c.self.invariant.all, c.self.invariant.counted, c.len.ensures)
