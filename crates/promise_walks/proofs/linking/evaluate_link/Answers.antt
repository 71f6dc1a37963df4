use Rattle.std.proofs.Common.{◌≡◌, ◌∙◌, sym, ap, [], Some, true, Ok, Err}
use Rattle.kj_base.specs.Commands.{step_of}
use Rattle.kj_base.specs.declared.nodes.Link.{Link}
use Rattle.kj_base.specs.declared.outcomes.Outcome.{Outcome}
use Rattle.kj_model.specs.Nodes.{form_at}
use Rattle.kj_model.specs.World.{State, Setting}
use Rattle.kj_model.specs.Value.{Given, Gave, then_valued, value, value_link}
use Rattle.promise_walks.specs.Values.{Valued, gave, gave_given}
use Rattle.promise_walks.proofs.Answering.{gives_from, gives_none, gives_over, gives_then, goes_from, goes_here, goes_over}
use Rattle.promise_walks.proofs.Climbed.{then_link}
use Rattle.promise_walks.proofs.Composed.{hears_none}
use Rattle.promise_walks.proofs.linking.evaluate_link.Goals as goal

pub returns-in_default-clause-gives : goal.returns-in_default-clause-gives
returns-in_default-clause-gives g c =
    let n = c.args.link.number.0 in
    record {
      items = [];
      told = hears_none (g.S.Steps.told c.args.steps.now);
      same = goes_here (g.L.Land.stands c.args.land.now) g.L.Land.rule (λ setting s. value_link setting n s) (λ setting s. (s, Some (Gave c.void.result)))
          (λ setting s stands. c.in_default.ensures.seen s.world stands setting (value setting) n s ∙ ap (λ (o : Outcome). (s, Some (Gave o))) (sym c.void.ensures));
    }

pub returns-in-Ok-clause-gives : goal.returns-in-Ok-clause-gives
returns-in-Ok-clause-gives g c =
    let A = g.L.Land.stands c.args.land.now in
    let B = g.L.Land.stands c.evaluate.new.land in
    let C = g.L.Land.stands c.close_then.new.land in
    let rule = g.L.Land.rule in
    let then = c.in-Some.then in
    let m = c.args.link.number.0 in
    let n = then.node.number.0 in
    let t = then.tree.number.0 in
    let v = step_of then.value in
    let e = step_of then.error in
    let before : Setting → State → Valued Given = (λ setting s. value_link setting m s) in
    let over : Setting → Valued Outcome → Valued Given = (λ setting q. then_valued setting true n v e t q.1 q.0) in
    let below : Setting → State → Valued Outcome = (λ setting s. value setting t s) in
    let done = c.in-Ok.ensures.gives in
    let mid : Setting → State → Valued Given = (λ setting s. over setting (gave c.in-Ok.outcome setting s)) in
    gives_then A B C rule before mid gave_given _ _ _ c.close_then.result done.items done.told
    (goes_from A B rule (λ setting s. over setting (below setting s)) before mid done.items
    (λ setting s stands. sym (then_link setting (value setting) m v e t (form_at m s.world.nodes) s (c.in-Some.ensures.seen s.world stands)
    ∙ ap (λ (l : Link). then_valued setting true l.number.0 v e t (below setting s).1 (below setting s).0) (sym c.in-Some.ensures.node)))
    (goes_over A B rule over below (gave c.in-Ok.outcome) done.items done.same))
    c.close_then.ensures.gives

pub returns-in-Err-clause-gives : goal.returns-in-Err-clause-gives
returns-in-Err-clause-gives g c =
    let A = g.L.Land.stands c.args.land.now in
    let B = g.L.Land.stands c.evaluate.new.land in
    let rule = g.L.Land.rule in
    let then = c.in-Some.then in
    let m = c.args.link.number.0 in
    let n = then.node.number.0 in
    let t = then.tree.number.0 in
    let v = step_of then.value in
    let e = step_of then.error in
    let before : Setting → State → Valued Given = (λ setting s. value_link setting m s) in
    let over : Setting → Valued Outcome → Valued Given = (λ setting q. then_valued setting true n v e t q.1 q.0) in
    let below : Setting → State → Valued Outcome = (λ setting s. value setting t s) in
    let view : Outcome → Setting → State → Valued Given = (λ x setting s. over setting (gave x setting s)) in
    gives_none A B rule before view gave_given _ _ c.in-Err.none
    (gives_from A B rule (λ setting s. over setting (below setting s)) before view _ _ (Err c.in-Err.none)
    (λ setting s stands. sym (then_link setting (value setting) m v e t (form_at m s.world.nodes) s (c.in-Some.ensures.seen s.world stands)
    ∙ ap (λ (l : Link). then_valued setting true l.number.0 v e t (below setting s).1 (below setting s).0) (sym c.in-Some.ensures.node)))
    (gives_over A B rule over below gave _ _ (Err c.in-Err.none) (λ setting s. Rattle.std.proofs.Common.refl) c.in-Err.ensures.gives))
