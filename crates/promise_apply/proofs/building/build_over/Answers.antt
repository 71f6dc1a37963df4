use Rattle.std.proofs.Common.{◌≡◌, ℕ, Some, refl, sym, ap, subst, ◌∙◌, []}
use Rattle.kj_model.specs.World.{Promise, held_at}
use Rattle.kj_model.specs.Changes.{named}
use Rattle.kj_model.specs.Effects.{over_built, over_named}
use Rattle.promise_nodes.proofs.Same.{named_lists}
use Rattle.promise_names.specs.Held.{AreFree, HasRoot}
use Rattle.promise_names.proofs.Listless.{none_listed}
use Rattle.promise_apply.specs.Building.{over_shown}
use Rattle.promise_apply.proofs.Roots.{free_more}
use Rattle.promise_apply.proofs.building.build_over.Goals as goal

pub returns-clause-free : goal.returns-clause-free
returns-clause-free g c =
    let next = g.N.Nodes.next c.args.nodes.now in
    let taken = g.N.Nodes.is_taken c.take_source-node.new.nodes in
    let before = g.M.Names.roots c.take_source-node.new.names in
    let after = g.M.Names.roots c.set.new.self in
    let has = subst (λ (n : ℕ). HasRoot before after c.args.name.0 (Some n)) c.take_source-node.ensures.number c.set.ensures.root in
    subst (λ (n : ℕ). AreFree after taken n) (sym c.take_source-node.ensures.next)
    (free_more before after taken taken next c.args.name.0 c.take_source-node.ensures.free has (λ n h. h)
    (ap taken (sym c.take_source-node.ensures.number) ∙ c.take_source-node.ensures.root))

pub returns-clause-stands : goal.returns-clause-stands
returns-clause-stands g c w both held listless =
    let name = c.args.name.0 in
    let over = over_built (over_shown c.args.over) c.args.source.0 w in
    let m = c.take_source-node.result.number.0 in
    let u = named name (Promise m) over in
    let taken = c.take_source-node.ensures.stands w both held in
    let number : m ≡ w.next = c.take_source-node.ensures.number ∙ sym (g.met.N.Nodes.next_is c.args.nodes.now w both.0) in
    let same : u ≡ over_named name (over_shown c.args.over) c.args.source.0 w = ap (λ (k : ℕ). named name (Promise k) over) number in
    let nodes = g.met.N.Nodes.names_free c.take_source-node.new.nodes over u refl (named_lists name (Promise m) over (sym (none_listed (held_at name over.names) listless))) taken.0 in
    (subst (g.N.Nodes.stands c.take_source-node.new.nodes) same nodes, subst (g.M.Names.stands c.set.new.self) same (c.set.ensures.stands over [] taken.1 listless tt))
