use Rattle.std.proofs.Common.{◌∙◌, sym, subst, ap}
use Rattle.kj_model.specs.Nodes.{dropped}
use Rattle.name_table.specs.Table.{Table, Stands, trees}
use Rattle.name_tree.specs.Kept.{view_of}
use Rattle.name_table.proofs.Trees.{trees_dropped}
use Rattle.name_table.proofs.Calls.{take_over_stands}
use Rattle.name_tree.proofs.names.NameTreeNames.take_over.Goals as goal

pub returns-clause-stands : goal.returns-clause-stands
returns-clause-stands c w st =
    let inner : Stands (view_of c.self.inside) w = subst (λ (t : Table). Stands t w) (sym c.self.view_is) st in
    take_over_stands c.args.tree.number.0 c.drop_tree.new.trees.items (view_of c.self.inside) w c.drop_tree.ensures.items inner

pub returns-clause-over : goal.returns-clause-over
returns-clause-over c =
    ap trees c.drop_tree.ensures.items ∙ trees_dropped c.args.tree.number.0 c.self.inside.over.items
    ∙ ap (λ (t : Table). dropped c.args.tree.number.0 (trees t.over)) c.self.view_is
