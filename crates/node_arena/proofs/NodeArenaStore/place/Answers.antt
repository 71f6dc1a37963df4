use Rattle.std.proofs.Common.{◌∙◌, ◌+◌, refl, arith, ap, sym, subst, IsTrue, ◌∷◌}
use Rattle.kj_base.specs.Places.{row}
use Rattle.kj_base.specs.Store.{slot_number, IsBareOrNone}
use Rattle.node_arena.specs.Arenas.{Arenas, view_of, IsChosen, bare_at, node_of, has_room}
use Rattle.node_arena.proofs.Standing.{placed_stands}
use Rattle.node_arena.proofs.Kept.{IsPut, kept_put, is_placed, was_free, slot_below, rest_fits}
use Rattle.node_arena.proofs.Freed.{no_node}
use Rattle.node_arena.proofs.NodeArenaStore.place.Goals as goal

put_is : (c : goal.After-put) → IsPut c.self.inside (record { cells = c.put.new.cells.items; free = c.choose-slot.new.free.items; live = c.self.inside.live + 1 }) (slot_number c.args.before) c.choose-slot.result c.args.node
put_is c = record {
  written = record {
    cell = c.put.ensures.cell;
    others = λ other d. c.put.ensures.others other d ∙ c.cover_before.ensures.cells other;
    size = c.put.ensures.size ∙ c.cover_before.ensures.size;
  };
  chosen = subst (λ b. IsChosen b c.self.inside.free.items c.choose-slot.new.free.items c.choose-slot.result) c.slot_below.ensures c.choose-slot.ensures.chosen;
  live = refl;
  bare = subst (λ (t : Arenas). IsBareOrNone (bare_at t.cells) (slot_number c.args.before)) (sym c.self.view_is) c.requires.bare;
}

pub invariant_of-self : goal.invariant_of-self
invariant_of-self c = kept_put c.self.inside _ (slot_number c.args.before) c.choose-slot.result c.args.node c.self.invariant (put_is c) c.choose-slot.ensures.capacity

pub returns-clause-was_free : goal.returns-clause-was_free
returns-clause-was_free c =
    ap (λ t. node_of t c.choose-slot.result) (sym c.self.view_is) ∙ no_node _ (was_free c.self.inside _ (slot_number c.args.before) c.choose-slot.result c.args.node c.self.invariant (put_is c))

pub returns-clause-below : goal.returns-clause-below
returns-clause-below c =
    let l = slot_below c.self.inside _ (slot_number c.args.before) c.choose-slot.result c.args.node c.self.invariant (put_is c) in
    let s = c.put.ensures.size ∙ c.cover_before.ensures.size in
    omega arith

pub returns-clause-rest : goal.returns-clause-rest
returns-clause-rest c = λ more count l t.
    rest_fits c.self.inside _ (slot_number c.args.before) c.choose-slot.result c.args.node c.self.invariant (put_is c) more count l
    (subst (λ (v : Arenas). IsTrue (has_room v (row (slot_number c.args.before) count ∷ more))) (sym c.self.view_is) t)

pub returns-clause-spots : goal.returns-clause-spots
returns-clause-spots c = λ spots key stands below.
    placed_stands (view_of c.self.inside) _ (slot_number c.args.before) c.choose-slot.result key spots (is_placed c.self.inside _ (slot_number c.args.before) c.choose-slot.result c.args.node c.self.invariant (put_is c))
    (rw (← c.self.view_is) at stands) below
