use Rattle.std.proofs.Common.{◌∙◌, subst, sym}
use Rattle.kj_model.specs.Free.{without_wrap}
use Rattle.promise_walks.proofs.Left.{no_wrap, wrap_lists, wrap_nodes}
use Rattle.promise_walks.proofs.freeing.leave_canceler.Goals as goal

pub returns-then-is_canceler-clause-stands : goal.returns-then-is_canceler-clause-stands
returns-then-is_canceler-clause-stands g c w stands =
    let n = c.args.wrap.number.0 in
    let canceler = c.args.canceler.0 in
    c.leave_list.ensures.stands w (without_wrap n canceler w) stands.0 (wrap_nodes n canceler w) (wrap_lists n canceler c.get.result w (c.get.ensures.held w stands.1) (sym c.is_canceler.ensures ∙ c.if-is_canceler.true))

pub returns-else-is_canceler-clause-stands : goal.returns-else-is_canceler-clause-stands
returns-else-is_canceler-clause-stands g c w stands =
    let n = c.args.wrap.number.0 in
    let canceler = c.args.canceler.0 in
    subst (g.N.Nodes.stands c.args.nodes.now) (sym (no_wrap n canceler c.get.result w (c.get.ensures.held w stands.1) (sym c.is_canceler.ensures ∙ c.if-is_canceler.false))) stands.0
