use Rattle.std.proofs.Common.{◌≡◌, ℕ, ◌+◌, ◌-◌, true, sym, refl, arith, subst, IsSome}
use Rattle.std.proofs.lemmas.Bool.{false≢true}
use Rattle.node_arena.specs.declared.NodeArena.TheInside.{Inside}
use Rattle.node_arena.specs.Arenas.{view_of, node_of, live_at, IsKept}
use Rattle.node_arena.proofs.Standing.{freed_stands}
use Rattle.node_arena.proofs.Freed.{live_of, free_room, given, not_given, kept_given, kept_same, some_live}
use Rattle.node_arena.proofs.NodeArenaStore.free.Goals as goal

-- one slot was live, so one fewer is
one_went : (t : Inside) (slot : ℕ) → IsKept t → live_at t.cells.items slot ≡ true → t.live - 1 + 1 ≡ t.live
one_went t slot k h = let a = some_live t slot k h in omega arith

pub overflow_sub-self : goal.overflow_sub-self
overflow_sub-self c =
    some_live c.self.inside c.args.slot.0 c.self.invariant (live_of c.self.inside c.args.slot.0 (subst (λ t. IsSome (node_of t c.args.slot.0)) (sym c.self.view_is) c.requires))

pub give-requires : goal.give-requires
give-requires c =
    let live = live_of c.self.inside c.args.slot.0 (subst (λ t. IsSome (node_of t c.args.slot.0)) (sym c.self.view_is) c.requires) in
    omega (arith, free_room c.self.inside c.mark.new.cells.items c.args.slot.0 c.self.invariant live c.mark.ensures.cell c.mark.ensures.others c.mark.ensures.size, c.self.inside.free.ok.0)

pub invariant_of-self : goal.invariant_of-self
invariant_of-self c =
    let live = live_of c.self.inside c.args.slot.0 (subst (λ t. IsSome (node_of t c.args.slot.0)) (sym c.self.view_is) c.requires) in
    kept_given c.self.inside _ c.args.slot.0 c.self.invariant live c.mark.ensures.cell c.mark.ensures.others c.mark.ensures.size (c.if-is_unused.ensures.0 refl) c.give.ensures.items c.give.ensures.capacity (one_went c.self.inside c.args.slot.0 c.self.invariant live)

pub invariant_of-self-else-is_unused : goal.invariant_of-self-else-is_unused
invariant_of-self-else-is_unused c =
    let live = live_of c.self.inside c.args.slot.0 (subst (λ t. IsSome (node_of t c.args.slot.0)) (sym c.self.view_is) c.requires) in
    kept_same c.self.inside _ c.args.slot.0 c.self.invariant live c.mark.ensures.cell c.mark.ensures.others c.mark.ensures.size (λ u. false≢true (c.if-is_unused.ensures.1 u)) refl (one_went c.self.inside c.args.slot.0 c.self.invariant live)

pub returns-then-is_unused-clause-spots : goal.returns-then-is_unused-clause-spots
returns-then-is_unused-clause-spots c = λ spots stands.
    let live = live_of c.self.inside c.args.slot.0 (subst (λ t. IsSome (node_of t c.args.slot.0)) (sym c.self.view_is) c.requires) in
    freed_stands (view_of c.self.inside) _ c.args.slot.0 spots
    (given c.self.inside c.mark.new.cells.items c.args.slot.0 c.self.invariant live c.mark.ensures.cell c.mark.ensures.others c.mark.ensures.size c.give.new.free.items (c.self.inside.live - 1) (c.if-is_unused.ensures.0 refl) c.give.ensures.items (one_went c.self.inside c.args.slot.0 c.self.invariant live))
    (rw (← c.self.view_is) at stands)

pub returns-else-is_unused-clause-spots : goal.returns-else-is_unused-clause-spots
returns-else-is_unused-clause-spots c = λ spots stands.
    let live = live_of c.self.inside c.args.slot.0 (subst (λ t. IsSome (node_of t c.args.slot.0)) (sym c.self.view_is) c.requires) in
    freed_stands (view_of c.self.inside) _ c.args.slot.0 spots
    (not_given c.self.inside c.mark.new.cells.items c.args.slot.0 c.self.invariant live c.mark.ensures.cell c.mark.ensures.others c.mark.ensures.size (c.self.inside.live - 1) (λ u. false≢true (c.if-is_unused.ensures.1 u)) (one_went c.self.inside c.args.slot.0 c.self.invariant live))
    (rw (← c.self.view_is) at stands)
