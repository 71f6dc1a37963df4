use Rattle.std.proofs.Common.{Option, rules, sym, subst, ap, ◌∙◌}
use Rattle.kj_model.specs.World.{held_at}
use Rattle.promise_names.specs.Held.{SeesHeld, root_of}
use Rattle.promise_names.specs.declared.names.Held.{Held}
use Rattle.name_table.specs.Table.{Table, Stands, root_at}
use Rattle.name_table.specs.Laws.{sees}
use Rattle.name_table.proofs.Awaited.{root_named}
use Rattle.name_tree.specs.Kept.{view_of}
use Rattle.name_tree.specs.Listed.{listed}
use Rattle.name_tree.proofs.Rises.{held_listed}
use Rattle.name_tree.proofs.names.NameTreeNames.get.Goals as goal

pub returns-clause-held : goal.returns-clause-held
returns-clause-held c w st =
    let inner : Stands (view_of c.self.inside) w = subst (λ (t : Table). Stands t w) (sym c.self.view_is) st in
    let names = c.self.inside.names in
    let is = held_listed names.tree names.cut.at names.cut.step c.self.invariant.names.split c.args.name.0 in
    subst (λ (o : Option Held). SeesHeld o (held_at c.args.name.0 w.names)) (is ∙ sym c.get.ensures)
    (sees c.args.name.0 (listed names.tree) w.names inner.names)

pub returns-clause-root : goal.returns-clause-root
returns-clause-root c =
    let names = c.self.inside.names in
    let is = held_listed names.tree names.cut.at names.cut.step c.self.invariant.names.split c.args.name.0 in
    ap root_of (c.get.ensures ∙ sym is) ∙ sym (root_named (view_of c.self.inside) c.args.name.0 (search rules)) ∙ ap (λ (t : Table). root_at t c.args.name.0) c.self.view_is
