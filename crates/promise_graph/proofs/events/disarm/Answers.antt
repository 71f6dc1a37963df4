use Rattle.std.proofs.Common.{◌∙◌, sym, ap, ℕ, subst}
use Rattle.std.specs.List.{AllByRecursion}
use Rattle.kj_base.specs.Queue.{Events, IsQueue, disarmed}
use Rattle.kj_base.proofs.QueueLemmas.{disarmed_keeps}
use Rattle.promise_graph.specs.Kept.{IsArmable}
use Rattle.promise_graph.specs.Standing.{event_name, events_as}
use Rattle.promise_graph.proofs.Renamed.{disarmed_by, left_all}
use Rattle.promise_graph.proofs.Naming.{apart_events, kept_queue, stands_queue, absent_unarmed}
use Rattle.promise_graph.proofs.events.disarm.Goals as goal

pub returns-in-Some-clause-kept : goal.returns-in-Some-clause-kept
returns-in-Some-clause-kept g c =
    let k = c.requires.kept in
    let at = g.St.Store.node_at c.args.g.now.store in
    let q = g.Q.Queue.events c.args.g.now.queue in
    let e = c.in-Some.event in
    let is = c.disarm.ensures.disarmed in
    kept_queue at _ q _ _ _ _ c.args.g.now.marks k c.disarm.ensures.size
    (subst (λ (r : Events). AllByRecursion (IsArmable at) r.list) (sym is) (left_all (IsArmable at) (IsArmable at) e (λ x d h. h) q k.sound.events.queue.apart k.sound.events.armed))
    (subst IsQueue (sym is) (disarmed_keeps e q k.sound.events.queue))

pub returns-in-Some-clause-stands : goal.returns-in-Some-clause-stands
returns-in-Some-clause-stands g c w st =
    let k = c.requires.kept in
    let at = g.St.Store.node_at c.args.g.now.store in
    let q = g.Q.Queue.events c.args.g.now.queue in
    let m = c.args.g.now.marks in
    let f = event_name at m.next in
    let e = c.in-Some.event in
    stands_queue at q _ _ _ m w
    (ap (disarmed c.args.node.number.0) st.seen.queue ∙ ap (λ (n : ℕ). disarmed n (events_as f q)) (sym c.in-Some.ensures.0) ∙ sym (disarmed_by f (apart_events at m k.sound.numbered) e q) ∙ ap (events_as f) (sym c.disarm.ensures.disarmed)) st

pub returns-in_default-clause-stands : goal.returns-in_default-clause-stands
returns-in_default-clause-stands g c w st =
    let k = c.requires.kept in
    let at = g.St.Store.node_at c.args.g.now.store in
    let q = g.Q.Queue.events c.args.g.now.queue in
    let m = c.args.g.now.marks in
    stands_queue at q _ _ _ m w (ap (disarmed c.args.node.number.0) st.seen.queue ∙ absent_unarmed at m.next c.args.node.number.0 q c.in_default.ensures.0 c.in_default.ensures.1 k.sound.events.armed) st
