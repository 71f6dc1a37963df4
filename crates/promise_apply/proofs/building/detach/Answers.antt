use Rattle.std.proofs.Common.{◌≡◌, ℕ, Some, sym, ap, subst, ◌∙◌}
use Rattle.kj_model.specs.Nodes.{Task}
use Rattle.kj_model.specs.World.{held_at}
use Rattle.kj_model.specs.Changes.{unnamed}
use Rattle.kj_model.specs.Effects.{node_of, node_named, with_detached, over_built, detached_built}
use Rattle.kj_model.specs.Listening.{listened}
use Rattle.promise_apply.specs.Building.{over_shown}
use Rattle.promise_apply.specs.declared.building.Over.TheVariants.{Task as TaskCase}
use Rattle.promise_apply.proofs.Same.{enlisted_names, listened_names}
use Rattle.promise_apply.proofs.Live.{built_live, built_detached, unlisted_task}
use Rattle.promise_apply.proofs.building.detach.Goals as goal

pub returns-clause-stands : goal.returns-clause-stands
returns-clause-stands g c w both held =
    let t = c.args.root.number.0 in
    let over = over_built (over_shown TaskCase) c.args.source.0 w in
    let taken = c.take_source-task.ensures.stands w both held in
    let n = c.take_source-task.result.number.0 in
    let number : n ≡ w.next = c.take_source-task.ensures.number ∙ sym (g.met.N.Nodes.next_is c.args.nodes.now w both.0) in
    let live = built_live n (node_named c.args.source.0 w) (Task (Some (node_named c.args.source.0 w))) (unnamed c.args.source.0 w) number in
    let new = unlisted_task (g.N.Nodes.next c.args.nodes.now) n w (g.met.N.Nodes.tasks_built c.args.nodes.now w n both.0) c.take_source-task.ensures.number over (built_detached (Some (node_named c.args.source.0 w)) (Task (Some (node_named c.args.source.0 w))) (unnamed c.args.source.0 w)) in
    let nodes = c.enlist.ensures.stands over taken.0 live new in
    let listens = c.listen.ensures.stands (with_detached n over) nodes in
    let before = g.met.M.Names.nodes_free c.take_source-task.new.names over (with_detached n over) (enlisted_names n over) taken.1 in
    let names = g.met.M.Names.nodes_free c.take_source-task.new.names (with_detached n over) (listened t (with_detached n over)) (listened_names t (with_detached n over)) before in
    let root : node_of (held_at c.args.source.0 w.names) ≡ t = ap node_of held in
    let same : listened t (with_detached n over) ≡ detached_built c.args.source.0 w = ap (λ (m : ℕ). listened t (with_detached m over)) number ∙ ap (λ (r : ℕ). listened r (with_detached w.next over)) (sym root) in
    (subst (g.N.Nodes.stands c.listen.new.nodes) same listens, subst (g.M.Names.stands c.take_source-task.new.names) same names)
