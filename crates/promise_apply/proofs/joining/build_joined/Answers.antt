use Rattle.std.proofs.Common.{◌≡◌, ℕ, ◌+◌, ◌<◌, List, [], None, Some, sym, ap, subst, ◌∙◌, arith, length}
use Rattle.kj_model.specs.Nodes.{Form, is_in}
use Rattle.kj_model.specs.World.{Promise, held_at}
use Rattle.kj_model.specs.Changes.{named}
use Rattle.kj_model.specs.Places.{built}
use Rattle.kj_model.specs.Effects.{leaf_built, sides_built, each_listened}
use Rattle.promise_nodes.specs.Shown.{shown, run_from}
use Rattle.promise_names.specs.Held.{AreFree, HasRoot}
use Rattle.promise_names.proofs.Listless.{none_listed}
use Rattle.promise_apply.specs.Joining.{joined_form, joined_built, source_names, source_trees}
use Rattle.promise_nodes.proofs.Same.{built_names, named_lists}
use Rattle.promise_apply.proofs.Same.{named_nodes}
use Rattle.promise_apply.proofs.Roots.{free_more}
use Rattle.promise_apply.proofs.Sided.{free_taken, free_later, each_names, trees_same, run_misses, names_long}
use Rattle.promise_apply.proofs.joining.build_joined.Goals as goal

pub returns-clause-stands : goal.returns-clause-stands
returns-clause-stands g c w both held listless =
    let name = c.args.name.0 in
    let sources = c.args.sources.now in
    let wanted = source_names sources in
    let n = c.build_sides-first.result.number.0 in
    let m = c.build-join.result.number.0 in
    let form = shown [] c.joined_form-form.result in
    let v = sides_built wanted w in
    let sides = c.build_sides-first.ensures.stands w both held in
    let first : n ≡ w.next = c.build_sides-first.ensures.number ∙ sym (g.met.N.Nodes.next_is c.args.nodes.now w both.0) in
    let number : m ≡ v.next = c.build-join.ensures.number ∙ sym (g.met.N.Nodes.next_is c.build_sides-first.new.nodes v sides.0) in
    let b = built None form v in
    let u = named name (Promise m) b in
    let nodes = c.build-join.ensures.stands v sides.0 in
    let names = g.met.M.Names.nodes_free c.build_sides-first.new.names v b (built_names None form v) sides.1 in
    let set = c.set.ensures.stands b [] names listless tt in
    let kept = g.met.N.Nodes.names_free c.build-join.new.self b u (named_nodes name (Promise m) b) (named_lists name (Promise m) b (sym (none_listed (held_at name b.names) listless))) nodes in
    let listens = c.listen_each.ensures.stands u kept in
    let after = each_names (g.M.Names.stands c.set.new.self) (g.met.M.Names.nodes_free c.set.new.self) (source_trees sources) u set in
    let is_form : form ≡ joined_form c.args.kind n wanted = c.joined_form-form.ensures.shown wanted (names_long sources) (omega (arith, c.requires.numbers, c.requires.few, c.build_sides-first.ensures.number)) in
    let same : each_listened (source_trees sources) u ≡ joined_built c.args.kind name wanted w =
    ap (λ (k : ℕ). each_listened (source_trees sources) (named name (Promise k) b)) number
    ∙ ap (λ (f : Form). each_listened (source_trees sources) (leaf_built name f v)) (is_form ∙ ap (λ (k : ℕ). joined_form c.args.kind k wanted) first)
    ∙ ap (λ (ns : List ℕ). each_listened ns (leaf_built name (joined_form c.args.kind w.next wanted) v)) (trees_same sources w held) in
    (subst (g.N.Nodes.stands c.listen_each.new.nodes) same listens, subst (g.M.Names.stands c.set.new.self) same after)

pub returns-clause-free : goal.returns-clause-free
returns-clause-free g c =
    let next = g.N.Nodes.next c.args.nodes.now in
    let sides = c.build_sides-first in
    let next1 = g.N.Nodes.next sides.new.nodes in
    let roots = g.M.Names.roots sides.new.names in
    let roots2 = g.M.Names.roots c.set.new.self in
    let taken = g.N.Nodes.is_taken sides.new.nodes in
    let taken2 = g.N.Nodes.is_taken c.build-join.new.self in
    let taken3 = g.N.Nodes.is_taken c.listen_each.new.nodes in
    let few = c.requires.few in
    let numbers = c.requires.numbers in
    let count = length c.args.sources.now in
    let more = sides.ensures.next in
    let has = subst (λ (n : ℕ). HasRoot roots roots2 c.args.name.0 (Some n)) c.build-join.ensures.number c.set.ensures.root in
    let misses = λ (k : ℕ) (low : k < next). ap (is_in k) c.joined_form-form.ensures.parts
    ∙ ap (λ (n : ℕ). is_in k (run_from count n)) sides.ensures.number
    ∙ run_misses k count next (omega (arith, few, numbers)) low in
    let free2 = free_taken roots taken taken2 next sides.ensures.free (λ k low h. c.build-join.ensures.taken k h (misses k low)) in
    let free3 = free_more roots roots2 taken2 taken2 next1 c.args.name.0 (free_later roots taken2 next next1 free2 (omega (arith, more))) has (λ n h. h) (ap taken2 (sym c.build-join.ensures.number) ∙ c.build-join.ensures.root) in
    let free4 = free_taken roots2 taken2 taken3 (next1 + 1) free3 (λ k low h. c.listen_each.ensures.taken k h) in
    subst (λ (n : ℕ). AreFree roots2 taken3 n) (sym (c.listen_each.ensures.next ∙ c.build-join.ensures.next)) free4
