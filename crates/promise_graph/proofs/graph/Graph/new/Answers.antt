use Rattle.std.proofs.Common.{sym, subst, ℕ}
use Rattle.promise_graph.specs.Memberships.{AreListed, AreNone}
use Rattle.promise_graph.specs.Visits.{AreVisits}
use Rattle.promise_graph.proofs.New.{new_kept, new_stands}
use Rattle.promise_graph.proofs.Following.{stands_for}
use Rattle.promise_graph.proofs.Frames.{no_lists}
use Rattle.promise_graph.proofs.graph.Graph.new.Goals as goal

pub invariant_of-result : goal.invariant_of-result
invariant_of-result g c = (
  new_kept (g.St.Store.node_at c.args.store) c.requires.no_nodes c.in_ok-marks.marks c.args.limits.slots c.in_ok-marks.ensures _ _ _ _ c.requires.few c.requires.store c.requires.size c.requires.no_events,
  subst (λ (j : ℕ). AreVisits c.in_ok-visits.visits j) (sym c.in_ok-marks.ensures.slots_are) c.in_ok-visits.ensures,
  subst (λ (j : ℕ). AreListed c.in_ok-memberships.memberships j) (sym c.in_ok-marks.ensures.slots_are) c.in_ok-memberships.ensures.listed,
)

pub returns-clause-stands : goal.returns-clause-stands
returns-clause-stands g c all e =
    let at = g.St.Store.node_at c.args.store in
    let m = c.in_ok-marks.marks in
    let kept = new_kept at c.requires.no_nodes m c.args.limits.slots c.in_ok-marks.ensures (g.St.Store.is_bare c.args.store) (g.Q.Queue.events c.args.queue) (g.St.Store.slots c.args.store) (g.Q.Queue.size c.args.queue) c.requires.few c.requires.store c.requires.size c.requires.no_events in
    record {
      nodes = stands_for at (g.Q.Queue.events c.args.queue) (g.St.Store.stands c.args.store) m _ kept.sound.numbered
          (new_stands at c.requires.no_nodes m c.args.limits.slots c.in_ok-marks.ensures (g.Q.Queue.events c.args.queue) (g.St.Store.stands c.args.store) all e c.requires.no_events c.requires.no_spots);
      lists = no_lists m c.in_ok-memberships.memberships (subst (λ (j : ℕ). AreNone c.in_ok-memberships.memberships j) (sym c.in_ok-marks.ensures.slots_are) c.in_ok-memberships.ensures);
    }
