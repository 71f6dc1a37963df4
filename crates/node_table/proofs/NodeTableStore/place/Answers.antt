use Rattle.std.proofs.Common.{arith, ap, refl}
use Rattle.std.specs.Prelude.{is_some}
use Rattle.kj_base.specs.Store.{slot_number}
use Rattle.node_table.specs.NodeTable.{view_of}
use Rattle.node_table.proofs.Standing.{placed_stands, few_placed}
use Rattle.node_table.proofs.NodeTableStore.place.Goals as goal

pub returns-clause-spots : goal.returns-clause-spots
returns-clause-spots c = λ spots key stands below. placed_stands
    (view_of c.self.inside) (view_of (record { cells = c.place_in-key.new.cells; slots = c.self.inside.slots })) (slot_number c.args.before) c.place_in-key.result key spots
    (record {
      was_free = c.place_in-key.ensures.was_free;
      placed = ap is_some c.place_in-key.ensures.placed;
      others = c.place_in-key.ensures.others;
      live = c.place_in-key.ensures.len;
      few = few_placed (view_of c.self.inside) (slot_number c.args.before) _ (rw (← c.self.view_is) at c.requires.fits) c.place_in-key.ensures.len;
      below = omega (arith, c.place_in-key.ensures.below, c.self.invariant.capacity);
      slots = refl;
    })
    (rw (← c.self.view_is) at stands)
