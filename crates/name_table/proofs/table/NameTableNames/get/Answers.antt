use Rattle.std.proofs.Common.{sym, subst, Option}
use Rattle.kj_model.specs.World.{held_at}
use Rattle.promise_names.specs.Held.{SeesHeld}
use Rattle.promise_names.specs.declared.names.Held.{Held}
use Rattle.name_table.specs.Table.{Table, Stands, view_of}
use Rattle.name_table.specs.Laws.{sees}
use Rattle.name_table.proofs.table.NameTableNames.get.Goals as goal

pub returns-clause-held : goal.returns-clause-held
returns-clause-held c w st =
    let inner : Stands (view_of c.self.inside) w = subst (λ (t : Table). Stands t w) (sym c.self.view_is) st in
    subst (λ (o : Option Held). SeesHeld o (held_at c.args.name.0 w.names)) (sym c.held_of.ensures)
    (sees c.args.name.0 c.self.inside.entries.items w.names inner.names)
