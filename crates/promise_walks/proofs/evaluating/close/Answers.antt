use Rattle.std.proofs.Common.{◌≡◌, ◌∙◌, sym, ap, arith, ◌+◌, ◌-◌, ◌++◌, ◌∷◌, [], suc, length, Some, Option, false, Ok, Err}
use Rattle.kj_base.specs.Commands.{step_of}
use Rattle.kj_base.specs.declared.outcomes.Outcome.{Outcome}
use Rattle.kj_model.specs.World.{State, Setting}
use Rattle.kj_model.specs.Value.{Given, outcome_given, rest_valued, side_valued, then_valued, value_to}
use Rattle.promise_walks.specs.declared.land.Given.{Given as GivenCase}
use Rattle.promise_walks.specs.declared.pending.At.{At}
use Rattle.promise_walks.specs.declared.pending.At.TheVariants.{Up}
use Rattle.promise_walks.specs.declared.pending.Pending.{Pending}
use Rattle.promise_walks.specs.declared.sums.Sum.{Sum}
use Rattle.promise_walks.specs.Shapes.{numbers_of}
use Rattle.promise_walks.specs.Sums.{plus}
use Rattle.promise_walks.specs.Values.{Valued, gave, gave_given}
use Rattle.promise_walks.specs.Climbs.{all_summed, climb, closed, is_at, pending_weight}
use Rattle.promise_walks.proofs.Answering.{gives_as, gives_from, gives_none, gives_over}
use Rattle.promise_walks.proofs.Climbed.{climb_none, climb_push, one_gone, plain_pop, plain_stay, weigh_push}
use Rattle.promise_walks.proofs.evaluating.close.Goals as goal

pub returns-in-Ok-clause-gives : goal.returns-in-Ok-clause-gives
returns-in-Ok-clause-gives g c =
    let A = g.L.Land.stands c.args.land.now in
    let B = g.L.Land.stands c.close_then.new.land in
    let rule = g.L.Land.rule in
    let fs = c.args.stack.now.items in
    let d = g.L.Land.slots c.args.land.now + 1 in
    let k = g.L.Land.slots c.args.land.now - length fs in
    let e : d ≡ length fs + suc k = omega (arith, c.requires.bound) in
    let o = c.args.outcome in
    let then = c.in-Then.then in
    let inner : Setting → State → Valued Given = (λ setting s. then_valued setting false then.node.number.0 (step_of then.value) (step_of then.error) then.tree.number.0 (Some o) s) in
    let over : Setting → Valued Given → Valued Outcome = (λ setting r. climb setting d fs (outcome_given r)) in
    let before : Setting → State → Valued Outcome = (λ setting s. climb setting d (fs ++ c.args.pending ∷ []) (s, Some o)) in
    let view : GivenCase → Setting → State → Valued Outcome = (λ x setting s. over setting (gave_given x setting s)) in
    gives_as A B rule before view (λ (at : At) setting s. is_at setting d fs at s) _ _ c.in-Ok.given (Up c.outcome_of_given.result)
    (λ setting s stands. ap (λ (p : Option Outcome). climb setting d fs (s, p)) (sym c.outcome_of_given.ensures))
    (gives_from A B rule (λ setting s. over setting (inner setting s)) before view _ _ (Ok c.in-Ok.given)
    (λ setting s stands. sym (climb_push setting d k fs c.args.pending (s, Some o) e ∙ ap (λ (f : Pending). climb setting d fs (closed setting k f (s, Some o))) c.in-Then.is))
    (gives_over A B rule over inner gave_given _ _ (Ok c.in-Ok.given) (λ setting s. climb_none setting d fs s) c.in-Ok.ensures.gives))

pub returns-in-Ok-clause-weight : goal.returns-in-Ok-clause-weight
returns-in-Ok-clause-weight g c =
    let fs = c.args.stack.now.items in
    let d = g.L.Land.slots c.args.land.now + 1 in
    let k = g.L.Land.slots c.args.land.now - length fs in
    one_gone d k fs c.args.pending (omega (arith, c.requires.bound)) (omega (arith, ap (pending_weight k) c.in-Then.is))

pub returns-in-Ok-clause-stack : goal.returns-in-Ok-clause-stack
returns-in-Ok-clause-stack g c =
    let old = g.L.Land.is_plain c.args.land.now in
    let fs = c.args.stack.now.items in
    plain_stay old (g.L.Land.is_plain c.close_then.new.land) fs c.in-Ok.ensures.plain (plain_pop old fs c.args.pending c.requires.plain).0

pub returns-in-Err-clause-gives : goal.returns-in-Err-clause-gives
returns-in-Err-clause-gives g c =
    let A = g.L.Land.stands c.args.land.now in
    let B = g.L.Land.stands c.close_then.new.land in
    let rule = g.L.Land.rule in
    let fs = c.args.stack.now.items in
    let d = g.L.Land.slots c.args.land.now + 1 in
    let k = g.L.Land.slots c.args.land.now - length fs in
    let e : d ≡ length fs + suc k = omega (arith, c.requires.bound) in
    let o = c.args.outcome in
    let then = c.in-Then.then in
    let inner : Setting → State → Valued Given = (λ setting s. then_valued setting false then.node.number.0 (step_of then.value) (step_of then.error) then.tree.number.0 (Some o) s) in
    let over : Setting → Valued Given → Valued Outcome = (λ setting r. climb setting d fs (outcome_given r)) in
    let before : Setting → State → Valued Outcome = (λ setting s. climb setting d (fs ++ c.args.pending ∷ []) (s, Some o)) in
    let view : GivenCase → Setting → State → Valued Outcome = (λ x setting s. over setting (gave_given x setting s)) in
    gives_none A B rule before view (λ (at : At) setting s. is_at setting d fs at s) _ _ c.in-Err.none
    (gives_from A B rule (λ setting s. over setting (inner setting s)) before view _ _ (Err c.in-Err.none)
    (λ setting s stands. sym (climb_push setting d k fs c.args.pending (s, Some o) e ∙ ap (λ (f : Pending). climb setting d fs (closed setting k f (s, Some o))) c.in-Then.is))
    (gives_over A B rule over inner gave_given _ _ (Err c.in-Err.none) (λ setting s. climb_none setting d fs s) c.in-Err.ensures.gives))

pub returns-in-Err-clause-stack : goal.returns-in-Err-clause-stack
returns-in-Err-clause-stack g c =
    let old = g.L.Land.is_plain c.args.land.now in
    let fs = c.args.stack.now.items in
    plain_stay old (g.L.Land.is_plain c.close_then.new.land) fs c.in-Err.ensures.plain (plain_pop old fs c.args.pending c.requires.plain).0

pub returns-in-Won-clause-gives : goal.returns-in-Won-clause-gives
returns-in-Won-clause-gives g c =
    let A = g.L.Land.stands c.args.land.now in
    let B = g.L.Land.stands c.close_side.new.land in
    let rule = g.L.Land.rule in
    let fs = c.args.stack.now.items in
    let d = g.L.Land.slots c.args.land.now + 1 in
    let k = g.L.Land.slots c.args.land.now - length fs in
    let e : d ≡ length fs + suc k = omega (arith, c.requires.bound) in
    let o = c.args.outcome in
    let p = c.in-Won in
    let inner : Setting → State → Valued Outcome = (λ setting s. side_valued p.side.number.0 p.tree.number.0 (Some o) s) in
    let over : Setting → Valued Outcome → Valued Outcome = (λ setting r. climb setting d fs r) in
    let before : Setting → State → Valued Outcome = (λ setting s. climb setting d (fs ++ c.args.pending ∷ []) (s, Some o)) in
    let view : Outcome → Setting → State → Valued Outcome = (λ x setting s. over setting (gave x setting s)) in
    gives_as A B rule before view (λ (at : At) setting s. is_at setting d fs at s) _ _ o (Up c.close_side.result)
    (λ setting s stands. ap (λ (x : Outcome). climb setting d fs (s, Some x)) (sym c.close_side.ensures.same))
    (gives_from A B rule (λ setting s. over setting (inner setting s)) before view _ _ (Ok o)
    (λ setting s stands. sym (climb_push setting d k fs c.args.pending (s, Some o) e ∙ ap (λ (f : Pending). climb setting d fs (closed setting k f (s, Some o))) p.is))
    (gives_over A B rule over inner gave _ _ (Ok o) (λ setting s. climb_none setting d fs s) c.close_side.ensures.gives))

pub returns-in-Won-clause-weight : goal.returns-in-Won-clause-weight
returns-in-Won-clause-weight g c =
    let fs = c.args.stack.now.items in
    let d = g.L.Land.slots c.args.land.now + 1 in
    let k = g.L.Land.slots c.args.land.now - length fs in
    one_gone d k fs c.args.pending (omega (arith, c.requires.bound)) (omega (arith, ap (pending_weight k) c.in-Won.is))

pub returns-in-Won-clause-stack : goal.returns-in-Won-clause-stack
returns-in-Won-clause-stack g c =
    let old = g.L.Land.is_plain c.args.land.now in
    let fs = c.args.stack.now.items in
    plain_stay old (g.L.Land.is_plain c.close_side.new.land) fs c.close_side.ensures.plain (plain_pop old fs c.args.pending c.requires.plain).0

pub returns-in-Part-clause-gives : goal.returns-in-Part-clause-gives
returns-in-Part-clause-gives g c =
    let A = g.L.Land.stands c.args.land.now in
    let B = g.L.Land.stands c.close_side-outcome.new.land in
    let rule = g.L.Land.rule in
    let fs = c.args.stack.now.items in
    let d = g.L.Land.slots c.args.land.now + 1 in
    let k = g.L.Land.slots c.args.land.now - length fs in
    let e : d ≡ length fs + suc k = omega (arith, c.requires.bound) in
    let o = c.args.outcome in
    let p = c.in-Part in
    let new = c.go_through.new.stack.items in
    let behind = numbers_of p.behind in
    let inner : Setting → State → Valued Outcome = (λ setting s. side_valued p.side.number.0 p.tree.number.0 (Some o) s) in
    let over : Setting → Valued Outcome → Valued Outcome = (λ setting q. climb setting d fs (rest_valued q.1 (λ x. all_summed (value_to setting k) (plus p.sum x) behind) q.0)) in
    let before : Setting → State → Valued Outcome = (λ setting s. climb setting d (fs ++ c.args.pending ∷ []) (s, Some o)) in
    let view : Outcome → Setting → State → Valued Outcome = (λ x setting s. over setting (gave x setting s)) in
    let sum : c.plus.result ≡ plus p.sum o = c.plus.ensures ∙ ap (λ (x : Outcome). plus p.sum x) c.close_side-outcome.ensures.same in
    let slots = c.close_side-outcome.ensures.slots in
    let through = rw slots at c.go_through.ensures.same in
    gives_as A B rule before view (λ (at : At) setting s. is_at setting d new at s) _ _ o c.go_through.result
    (λ setting s stands. ap (λ (z : Sum). climb setting d fs (all_summed (value_to setting k) z behind s)) (sym sum) ∙ through setting s stands)
    (gives_from A B rule (λ setting s. over setting (inner setting s)) before view _ _ (Ok o)
    (λ setting s stands. sym (climb_push setting d k fs c.args.pending (s, Some o) e ∙ ap (λ (f : Pending). climb setting d fs (closed setting k f (s, Some o))) p.is))
    (gives_over A B rule over inner gave _ _ (Ok o) (λ setting s. climb_none setting d fs s) c.close_side-outcome.ensures.gives))

pub returns-in-Part-clause-weight : goal.returns-in-Part-clause-weight
returns-in-Part-clause-weight g c =
    let fs = c.args.stack.now.items in
    let d = g.L.Land.slots c.args.land.now + 1 in
    let k = g.L.Land.slots c.args.land.now - length fs in
    let slots = c.close_side-outcome.ensures.slots in
    let w = rw slots at c.go_through.ensures.weight in
    let e = weigh_push d k fs c.args.pending (omega (arith, c.requires.bound)) in
    omega (arith, w, e, ap (pending_weight k) c.in-Part.is)

pub go_through-requires-clause-plain : goal.go_through-requires-clause-plain
go_through-requires-clause-plain g c =
    let old = g.L.Land.is_plain c.args.land.now in
    let fs = c.args.stack.now.items in
    plain_stay old (g.L.Land.is_plain c.close_side-outcome.new.land) fs c.close_side-outcome.ensures.plain (plain_pop old fs c.args.pending c.requires.plain).0
