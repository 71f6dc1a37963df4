use Rattle.std.proofs.Common.{sym, subst}
use Rattle.std.specs.List.{AllByRecursion}
use Rattle.kj_base.specs.Queue.{Events, IsQueue}
use Rattle.kj_base.proofs.QueueLemmas.{taken_keeps}
use Rattle.promise_graph.specs.Kept.{IsArmable}
use Rattle.promise_graph.proofs.Naming.{kept_queue, taken_all}
use Rattle.promise_graph.proofs.events.take.Goals as goal

pub node_of-requires-clause-kept : goal.node_of-requires-clause-kept
node_of-requires-clause-kept g c =
    let k = c.requires.kept in
    let at = g.St.Store.node_at c.args.g.now.store in
    let q = g.Q.Queue.events c.args.g.now.queue in
    let is = c.take.ensures.taken in
    kept_queue at _ q _ _ _ _ c.args.g.now.marks k c.take.ensures.size
    (subst (λ (r : Events). AllByRecursion (IsArmable at) r.list) (sym is) (taken_all (IsArmable at) q k.sound.events.armed))
    (subst IsQueue (sym is) (taken_keeps q k.sound.events.queue))

pub returns-in-Some-clause-kept : goal.returns-in-Some-clause-kept
returns-in-Some-clause-kept g c =
    let k = c.requires.kept in
    let at = g.St.Store.node_at c.args.g.now.store in
    let q = g.Q.Queue.events c.args.g.now.queue in
    let is = c.take.ensures.taken in
    kept_queue at _ q _ _ _ _ c.args.g.now.marks k c.take.ensures.size
    (subst (λ (r : Events). AllByRecursion (IsArmable at) r.list) (sym is) (taken_all (IsArmable at) q k.sound.events.armed))
    (subst IsQueue (sym is) (taken_keeps q k.sound.events.queue))
