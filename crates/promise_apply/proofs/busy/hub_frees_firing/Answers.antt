use Rattle.std.proofs.Common.{◌∙◌, Option, sym, subst}
use Rattle.kj_base.specs.declared.nodes.Form.{Form as FormCase}
use Rattle.kj_model.specs.Nodes.{form_at}
use Rattle.kj_model.specs.Effects.{hub_unnamed}
use Rattle.promise_apply.specs.Dropping.{SeesHub}
use Rattle.promise_apply.proofs.Restored.{hub_tested, no_hub_tested, puts_back}
use Rattle.promise_apply.proofs.busy.hub_frees_firing.Goals as goal

pub returns-clause-found : goal.returns-clause-found
returns-clause-found g c w old =
    let hub = c.args.hub.number.0 in
    c.unnamed_frees_firing-found.ensures.found (hub_unnamed hub w) (c.unname_hub.ensures.stands w old) ∙ sym (hub_tested hub w)

pub returns-clause-stands : goal.returns-clause-stands
returns-clause-stands g c w old =
    let hub = c.args.hub.number.0 in
    let form = c.in-Some.form in
    let sees = subst (λ (o : Option FormCase). SeesHub o (form_at hub w.nodes)) c.in-Some.is (c.hub_form.ensures w old) in
    let back = puts_back hub form w (g.met.N.Nodes.once c.args.nodes.now w old) sees in
    let then = c.unnamed_frees_firing-found.ensures.stands (hub_unnamed hub w) (c.unname_hub.ensures.stands w old) in
    subst (g.N.Nodes.stands c.put.new.self) back.again (c.put.ensures.stands (hub_unnamed hub w) then back.kind back.adds)

pub returns-in_default-clause-found : goal.returns-in_default-clause-found
returns-in_default-clause-found g c w old =
    let hub = c.args.hub.number.0 in
    no_hub_tested hub w (subst (λ (o : Option FormCase). SeesHub o (form_at hub w.nodes)) c.in_default.is (c.hub_form.ensures w old))
