use Rattle.std.proofs.Common.{sym, subst, arith}
use Rattle.name_table.specs.Table.{Table, Stands, view_of}
use Rattle.name_table.proofs.Names.{as_many}
use Rattle.name_table.proofs.table.NameTableNames.len.Goals as goal

pub returns-clause-names : goal.returns-clause-names
returns-clause-names c w st =
    let inner : Stands (view_of c.self.inside) w = subst (λ (t : Table). Stands t w) (sym c.self.view_is) st in
    let many = as_many c.self.inside.entries.items w.names inner.names in
    omega (arith, many, c.len.ensures)
