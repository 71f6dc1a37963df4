use Rattle.std.proofs.Common.{◌≡◌, ℕ, [], None, true, sym, ap, subst, ◌∙◌}
use Rattle.kj_model.specs.Nodes.{Hub, Tree}
use Rattle.kj_model.specs.World.{HubOf, held_at}
use Rattle.kj_model.specs.Changes.{named, unnamed}
use Rattle.kj_model.specs.Places.{built}
use Rattle.kj_model.specs.Effects.{node_of, fork_built}
use Rattle.kj_model.specs.Listening.{listened}
use Rattle.promise_nodes.proofs.Same.{built_names, named_lists, unnamed_lists}
use Rattle.promise_nodes.specs.Members.{members_of}
use Rattle.promise_names.proofs.Listless.{none_listed}
use Rattle.promise_apply.proofs.Same.{named_nodes, unnamed_nodes, listened_names}
use Rattle.promise_apply.proofs.chaining.build_fork.Goals as goal

pub returns-clause-stands : goal.returns-clause-stands
returns-clause-stands g c w both held listless =
    let source = c.args.source.0 in
    let hub = c.args.hub.0 in
    let t = c.args.root.number.0 in
    let m = c.build-node.result.number.0 in
    let number : m ≡ w.next = c.build-node.ensures.number ∙ sym (g.met.N.Nodes.next_is c.args.nodes.now w both.0) in
    let v = unnamed source w in
    let b = built None (Hub (Tree t) true []) v in
    let u = named hub (HubOf m) b in
    let nodes = c.build-node.ensures.stands v (g.met.N.Nodes.names_free c.args.nodes.now w v (unnamed_nodes source w) (unnamed_lists source w (ap members_of held)) both.0) in
    let names = g.met.M.Names.nodes_free c.remove.new.self v b (built_names None (Hub (Tree t) true []) v) (c.remove.ensures.stands w both.1) in
    let set = c.set.ensures.stands b [] names listless tt in
    let kept = g.met.N.Nodes.names_free c.build-node.new.self b u (named_nodes hub (HubOf m) b) (named_lists hub (HubOf m) b (sym (none_listed (held_at hub b.names) listless))) nodes in
    let listens = c.listen.ensures.stands u kept in
    let after = g.met.M.Names.nodes_free c.set.new.self u (listened t u) (listened_names t u) set in
    let same : listened t u ≡ fork_built hub source w =
    ap (λ (x : ℕ). listened t (named hub (HubOf x) b)) number
    ∙ ap (λ (r : ℕ). listened r (named hub (HubOf w.next) (built None (Hub (Tree r) true []) v))) (sym (ap node_of held)) in
    (subst (g.N.Nodes.stands c.listen.new.nodes) same listens, subst (g.M.Names.stands c.set.new.self) same after)
