use Rattle.std.proofs.Common.{◌∙◌, sym, ap, ℕ, subst}
use Rattle.std.specs.List.{AllByRecursion}
use Rattle.kj_base.specs.Queue.{Events, IsQueue, armed}
use Rattle.kj_base.proofs.QueueLemmas.{armed_keeps}
use Rattle.promise_nodes.specs.Shown.{way_of}
use Rattle.promise_graph.specs.Kept.{IsArmable}
use Rattle.promise_graph.specs.Standing.{event_name, events_as}
use Rattle.promise_graph.proofs.Naming.{apart_events, armed_by, armed_all, kept_queue, stands_queue}
use Rattle.promise_graph.proofs.events.arm.Goals as goal

pub returns-in-Some-clause-kept : goal.returns-in-Some-clause-kept
returns-in-Some-clause-kept g c =
    let k = c.requires.kept in
    let at = g.St.Store.node_at c.args.g.now.store in
    let q = g.Q.Queue.events c.args.g.now.queue in
    let way = way_of c.args.way in
    let e = c.in-Some.event in
    let is = c.arm_event.ensures.armed in
    kept_queue at _ q _ _ _ _ c.args.g.now.marks k c.arm_event.ensures.size
    (subst (λ (r : Events). AllByRecursion (IsArmable at) r.list) (sym is) (armed_all (IsArmable at) way e q c.in-Some.ensures.1 k.sound.events.armed))
    (subst IsQueue (sym is) (armed_keeps way e q k.sound.events.queue))

pub returns-in-Some-clause-stands : goal.returns-in-Some-clause-stands
returns-in-Some-clause-stands g c w st there =
    let k = c.requires.kept in
    let at = g.St.Store.node_at c.args.g.now.store in
    let q = g.Q.Queue.events c.args.g.now.queue in
    let way = way_of c.args.way in
    let m = c.args.g.now.marks in
    let f = event_name at m.next in
    let e = c.in-Some.event in
    stands_queue at q _ _ _ m w
    (ap (armed way c.args.node.number.0) st.seen.queue ∙ ap (λ (n : ℕ). armed way n (events_as f q)) (sym c.in-Some.ensures.0) ∙ sym (armed_by f (apart_events at m k.sound.numbered) way e q) ∙ ap (events_as f) (sym c.arm_event.ensures.armed)) st
