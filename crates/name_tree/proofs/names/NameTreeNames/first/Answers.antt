use Rattle.std.proofs.Common.{None, Some, sym, subst}
use Rattle.name_table.specs.Table.{Table, Stands}
use Rattle.name_tree.specs.Kept.{view_of}
use Rattle.name_tree.specs.Trees.{IsLowest}
use Rattle.name_tree.proofs.First.{first_is}
use Rattle.name_tree.proofs.names.NameTreeNames.first.Goals as goal

pub returns-in-Some : goal.returns-in-Some
returns-in-Some c w st =
    let inner : Stands (view_of c.self.inside) w = subst (λ (t : Table). Stands t w) (sym c.self.view_is) st in
    let names = c.self.inside.names in
    let low : IsLowest (Some c.in-Some.key) names.tree = c.in-Some.ensures in
    first_is names.cut.at names.cut.step names.tree (Some c.in-Some.key) w.names
    c.self.invariant.names.split low inner.names

pub returns-in-None : goal.returns-in-None
returns-in-None c w st =
    let inner : Stands (view_of c.self.inside) w = subst (λ (t : Table). Stands t w) (sym c.self.view_is) st in
    let names = c.self.inside.names in
    let low : IsLowest None names.tree = c.in-None.ensures in
    first_is names.cut.at names.cut.step names.tree None w.names
    c.self.invariant.names.split low inner.names
