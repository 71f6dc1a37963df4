use Rattle.std.proofs.Common.{◌≡◌, ◌∙◌, ℕ, ◌+◌, ◌-◌, ◌≤◌, ap, arith, length}
use Rattle.std.specs.Prelude.{nat_le, ◌&&◌}
use Rattle.std.proofs.lemmas.Bool.Decides.{nat_tests}
use Rattle.kj_base.specs.Places.{counts}
use Rattle.kj_base.specs.Store.{rows_of}
use Rattle.node_arena.specs.Needs.{needed}
use Rattle.node_arena.specs.Arenas.{Arenas, slot_needs, has_room}
use Rattle.node_arena.proofs.Freed.{live_within}
use Rattle.node_arena.proofs.NodeArenaStore.fits.Goals as goal

pub overflow_sub-slots : goal.overflow_sub-slots
overflow_sub-slots c = omega (arith, live_within c.self.inside c.self.invariant, c.len.ensures, c.self.inside.cells.ok.0)

moved : (live n size : ℕ) → live ≤ size → nat_le n (size - live) ≡ nat_le (live + n) size
moved live n size l = grind (arith, nat_tests)

pub returns : goal.returns
returns c =
    let rows = rows_of c.args.rows.now in
    let l = live_within c.self.inside c.self.invariant in
    let size : c.len.result ≡ length c.self.inside.cells.items = omega (arith, c.len.ensures, c.self.inside.cells.ok.0) in
    let free : c.len-2.result ≡ length c.self.inside.free.items = omega (arith, c.len-2.ensures, c.self.inside.free.ok.0) in
    c.are_enough.ensures
    ∙ ap (λ n. nat_le (needed (slot_needs c.self.inside.cells.items) rows) n && nat_le (counts rows) (c.len.result - c.self.inside.live)) free
    ∙ ap (λ n. nat_le (needed (slot_needs c.self.inside.cells.items) rows) (length c.self.inside.free.items) && nat_le (counts rows) (n - c.self.inside.live)) size
    ∙ ap (λ b. nat_le (needed (slot_needs c.self.inside.cells.items) rows) (length c.self.inside.free.items) && b) (moved c.self.inside.live (counts rows) (length c.self.inside.cells.items) l)
    ∙ ap (λ (t : Arenas). has_room t rows) c.self.view_is
