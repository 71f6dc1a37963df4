use Rattle.std.proofs.Common.{ap, Option, Some, None, ℕ}
use Rattle.kj_base.specs.Commands.{step_of}
use Rattle.kj_model.specs.Nodes.{Then}
use Rattle.kj_model.specs.World.{State, Setting}
use Rattle.kj_model.specs.Changes.{silent, put}
use Rattle.kj_model.specs.Value.{Given, freed, then_valued, step_passed}
use Rattle.promise_walks.specs.Values.{Valued, gave_given}
use Rattle.promise_walks.proofs.Answering.{gives_then, goes_by}
use Rattle.promise_walks.proofs.closing.close_then.Goals as goal

pub returns-clause-gives : goal.returns-clause-gives
returns-clause-gives g c =
    let done = c.free_part.ensures.does in
    let n = c.args.then.node.number.0 in
    let t = c.args.then.tree.number.0 in
    let v = step_of c.args.then.value in
    let e = step_of c.args.then.error in
    let o = c.args.outcome in
    let under_chain = c.args.under_chain in
    let change : State → State = (λ s. silent (put n (Then v e None)) (freed t s)) in
    let before : Setting → State → Valued Given = (λ setting s. then_valued setting under_chain n v e t (Some o) s) in
    let mid : Setting → State → Valued Given = (λ setting s. step_passed setting under_chain n (step_of c.chosen_step-step.result) o s) in
    gives_then (g.L.Land.stands c.args.land.now) (g.L.Land.stands c.put_bare.new.self) (g.L.Land.stands c.pass_step.new.land) g.L.Land.rule before mid gave_given _ _ _ c.pass_step.result done.items done.told
    (goes_by (g.L.Land.stands c.args.land.now) (g.L.Land.stands c.put_bare.new.self) g.L.Land.rule change before mid done.items
    (λ s a. let r = done.moves s a in record { state = silent (put n (Then v e None)) r.state; stands = c.put_bare.ensures.stands r.state.world r.stands; past_is = r.past_is; ends = ap (λ (u : State). silent (put n (Then v e None)) u) r.ends })
    (λ setting s. ap (λ (step : Option ℕ). step_passed setting under_chain n step o (change s)) c.chosen_step-step.ensures))
    c.pass_step.ensures.gives
