use Rattle.std.proofs.Common.{◌∙◌, length, ap, refl}
use Rattle.std.specs.Prelude.{nat_le, ◌&&◌, ◌+◌}
use Rattle.kj_base.specs.Places.{counts}
use Rattle.node_arena.specs.Needs.{needed}
use Rattle.node_arena.specs.Arenas.{Arenas, has_room, slot_needs}
use Rattle.node_arena.proofs.Kept.{IsSet, kept_set, needs_set}
use Rattle.node_arena.proofs.Freed.{is_set}
use Rattle.node_arena.proofs.NodeArenaStore.set.Goals as goal

set_is : (c : goal.After-set_in) → IsSet c.self.inside.cells.items c.set_in.new.cells.items c.args.slot.0
set_is c = is_set c.self.inside.cells.items c.set_in.new.cells.items c.args.slot.0 c.args.node c.set_in.ensures.cell c.set_in.ensures.others c.set_in.ensures.size

pub invariant_of-self : goal.invariant_of-self
invariant_of-self c = kept_set c.self.inside _ c.args.slot.0 c.self.invariant (set_is c) refl refl

pub returns-clause-room : goal.returns-clause-room
returns-clause-room c = λ rows.
    ap (λ n. nat_le n (length c.self.inside.free.items) && nat_le (c.self.inside.live + counts rows) (length c.set_in.new.cells.items)) (needs_set c.self.inside.cells.items c.set_in.new.cells.items c.args.slot.0 rows (set_is c))
    ∙ ap (λ k. nat_le (needed (slot_needs c.self.inside.cells.items) rows) (length c.self.inside.free.items) && nat_le (c.self.inside.live + counts rows) k) c.set_in.ensures.size
    ∙ ap (λ (t : Arenas). has_room t rows) c.self.view_is
