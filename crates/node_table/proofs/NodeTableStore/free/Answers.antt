use Rattle.std.proofs.Common.{refl}
use Rattle.node_table.specs.NodeTable.{view_of, cell_at}
use Rattle.node_table.proofs.Standing.{freed_stands, has_node}
use Rattle.node_table.proofs.NodeTableStore.free.Goals as goal

pub returns-clause-spots : goal.returns-clause-spots
returns-clause-spots c = λ spots stands. freed_stands
    (view_of c.self.inside) (view_of (record { cells = c.remove.new.self; slots = c.self.inside.slots })) c.args.slot.0 spots
    (record {
      was_live = has_node (cell_at (view_of c.self.inside) c.args.slot.0) (rw (← c.self.view_is) at c.requires);
      freed = c.remove.ensures.updates.changed;
      others = c.remove.ensures.updates.others;
      live = c.remove.ensures.len;
      slots = refl;
    })
    (rw (← c.self.view_is) at stands)
