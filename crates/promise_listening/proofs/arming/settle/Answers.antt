use Rattle.std.proofs.Common.{sym, subst}
use Rattle.std.proofs.lemmas.Bool.{false≢true}
use Rattle.kj_model.specs.Nodes.{form_at}
use Rattle.promise_nodes.specs.Shown.{way_of}
use Rattle.promise_listening.proofs.Settled.{waiting_is, settled_is, cell_kept, cell_lives}
use Rattle.promise_listening.proofs.arming.settle.Goals as goal

pub returns-clause-stands : goal.returns-clause-stands
returns-clause-stands g c w st =
    let n = c.args.cell.number.0 in
    let o = c.args.outcome in
    let cell = waiting_is (form_at n w.nodes) (sym (c.if-not-is_waiting.ensures w st)) in
    subst (g.N.Nodes.stands c.announce.new.nodes) (settled_is (way_of c.args.way) n o w cell)
    (c.announce.ensures.stands _ (c.put.ensures.stands w st (cell_kept o (form_at n w.nodes) cell) (λ m h. absurd (false≢true h))) (cell_lives n o w cell))
