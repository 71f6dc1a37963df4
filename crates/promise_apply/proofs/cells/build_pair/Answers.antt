use Rattle.std.proofs.Common.{◌≡◌, ℕ, None, refl, sym, ap, subst, ◌∙◌, []}
use Rattle.kj_model.specs.Nodes.{Cell}
use Rattle.kj_model.specs.World.{CellOf, held_at}
use Rattle.kj_model.specs.Changes.{named}
use Rattle.kj_model.specs.Effects.{leaf_built}
use Rattle.promise_nodes.proofs.Same.{named_lists}
use Rattle.promise_names.proofs.Listless.{none_listed}
use Rattle.promise_apply.specs.Building.{pair_built}
use Rattle.promise_apply.proofs.cells.build_pair.Goals as goal

pub returns-clause-stands : goal.returns-clause-stands
returns-clause-stands g c w both new =
    let cell = c.args.cell.0 in
    let m = c.build_leaf-leaf.result.number.0 in
    let b = leaf_built c.args.name.0 (Cell None) w in
    let u = named cell (CellOf m) b in
    let leaf = c.build_leaf-leaf.ensures.stands w both new.promise in
    let number : m ≡ w.next = c.build_leaf-leaf.ensures.number ∙ sym (g.met.N.Nodes.next_is c.args.nodes.now w both.0) in
    let same : u ≡ pair_built c.args.name.0 cell w = ap (λ (k : ℕ). named cell (CellOf k) b) number in
    let nodes = g.met.N.Nodes.names_free c.build_leaf-leaf.new.nodes b u refl (named_lists cell (CellOf m) b (sym (none_listed (held_at cell b.names) new.fulfiller))) leaf.0 in
    (subst (g.N.Nodes.stands c.build_leaf-leaf.new.nodes) same nodes, subst (g.M.Names.stands c.set.new.self) same (c.set.ensures.stands b [] leaf.1 new.fulfiller tt))
