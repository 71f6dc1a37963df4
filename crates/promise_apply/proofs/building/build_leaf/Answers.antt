use Rattle.std.proofs.Common.{◌≡◌, ℕ, [], None, Some, refl, sym, ap, subst, ◌∙◌}
use Rattle.kj_model.specs.Nodes.{is_in}
use Rattle.kj_model.specs.World.{Promise, held_at}
use Rattle.kj_model.specs.Changes.{named}
use Rattle.kj_model.specs.Places.{built}
use Rattle.kj_model.specs.Effects.{leaf_built}
use Rattle.promise_nodes.specs.Shown.{shown}
use Rattle.promise_nodes.proofs.Same.{built_names, named_lists}
use Rattle.promise_names.specs.Held.{AreFree, HasRoot}
use Rattle.promise_names.proofs.Listless.{none_listed}
use Rattle.promise_apply.proofs.Roots.{free_more}
use Rattle.promise_apply.proofs.building.build_leaf.Goals as goal

pub returns-clause-free : goal.returns-clause-free
returns-clause-free g c =
    let next = g.N.Nodes.next c.args.nodes.now in
    let taken = g.N.Nodes.is_taken c.build-leaf.new.self in
    let has = subst (λ (n : ℕ). HasRoot (g.M.Names.roots c.args.names.now) (g.M.Names.roots c.set.new.self) c.args.name.0 (Some n)) c.build-leaf.ensures.number c.set.ensures.root in
    subst (λ (n : ℕ). AreFree (g.M.Names.roots c.set.new.self) taken n) (sym c.build-leaf.ensures.next)
    (free_more (g.M.Names.roots c.args.names.now) (g.M.Names.roots c.set.new.self) (g.N.Nodes.is_taken c.args.nodes.now) taken next c.args.name.0
    c.requires.free has
    (λ n h. c.build-leaf.ensures.taken n h (ap (is_in n) c.requires.leaf))
    (ap taken (sym c.build-leaf.ensures.number) ∙ c.build-leaf.ensures.root))

pub returns-clause-stands : goal.returns-clause-stands
returns-clause-stands g c w both listless =
    let name = c.args.name.0 in
    let form = shown [] c.args.form in
    let m = c.build-leaf.result.number.0 in
    let b = built None form w in
    let u = named name (Promise m) b in
    let number : m ≡ w.next = c.build-leaf.ensures.number ∙ sym (g.met.N.Nodes.next_is c.args.nodes.now w both.0) in
    let same : u ≡ leaf_built name form w = ap (λ (k : ℕ). named name (Promise k) b) number in
    let nodes = g.met.N.Nodes.names_free c.build-leaf.new.self b u refl (named_lists name (Promise m) b (sym (none_listed (held_at name b.names) listless))) (c.build-leaf.ensures.stands w both.0) in
    let names = c.set.ensures.stands b [] (g.met.M.Names.nodes_free c.args.names.now w b (built_names None form w) both.1) listless tt in
    (subst (g.N.Nodes.stands c.build-leaf.new.self) same nodes, subst (g.M.Names.stands c.set.new.self) same names)
