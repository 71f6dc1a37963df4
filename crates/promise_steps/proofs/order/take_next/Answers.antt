-- The next body of a step, which goes unless it is the last.
use Rattle.std.proofs.Common.{◌<◌, ◌∷◌, List, length, sym, ap, ◌∙◌}
use Rattle.kj_base.specs.Commands.{Action}
use Rattle.promise_steps.specs.Order.{action_in}
use Rattle.promise_steps.specs.declared.order.Entry.{Entry}
use Rattle.promise_steps.proofs.Orders.{nothing_next, one_next, last_next, gives_passing, gives_first, left_passing, left_last, done_in_order, done_left, next_within, entry_here, none_there, some_there}
use Rattle.promise_steps.proofs.order.take_next.Goals as goal

pub returns-in-None-clause-gives : goal.returns-in-None-clause-gives
returns-in-None-clause-gives c =
    let bodies = c.args.script.now.bodies in
    let step = c.args.step.0 in
    let xs = c.args.order.now.items in
    let e = c.place_of-place.ensures in
    gives_passing bodies step xs (nothing_next bodies step c.place_of-place.result xs c.requires e.before e.after (sym c.body_at.ensures ∙ c.in-None.is))

pub returns-in-None-clause-left : goal.returns-in-None-clause-left
returns-in-None-clause-left c =
    let bodies = c.args.script.now.bodies in
    let step = c.args.step.0 in
    let xs = c.args.order.now.items in
    let e = c.place_of-place.ensures in
    left_passing bodies step xs (nothing_next bodies step c.place_of-place.result xs c.requires e.before e.after (sym c.body_at.ensures ∙ c.in-None.is))

pub returns-then-is_none-clause-gives : goal.returns-then-is_none-clause-gives
returns-then-is_none-clause-gives c =
    let bodies = c.args.script.now.bodies in
    let step = c.args.step.0 in
    let xs = c.args.order.now.items in
    let e = c.place_of-place.ensures in
    gives_first bodies step xs _ _ (one_next bodies step c.place_of-place.result xs c.in-Some.body e.before e.after (sym c.body_at.ensures ∙ c.in-Some.is))

pub returns-then-is_none-clause-left : goal.returns-then-is_none-clause-left
returns-then-is_none-clause-left c =
    let bodies = c.args.script.now.bodies in
    let step = c.args.step.0 in
    let xs = c.args.order.now.items in
    let p = c.place_of-place.result in
    let e = c.place_of-place.ensures in
    let last = sym c.body_at-2.ensures ∙ none_there c.body_at-2.result c.if-is_none.ensures in
    left_last bodies step xs (action_in bodies c.in-Some.body)
    (one_next bodies step p xs c.in-Some.body e.before e.after (sym c.body_at.ensures ∙ c.in-Some.is)
    ∙ ap (λ (l : List Action). action_in bodies c.in-Some.body ∷ l) (last_next bodies step p xs c.requires e.after last))

pub returns-clause-in_order : goal.returns-clause-in_order
returns-clause-in_order c =
    let bodies = c.args.script.now.bodies in
    let step = c.args.step.0 in
    let xs = c.args.order.now.items in
    let p = c.place_of-place.result in
    let e = c.place_of-place.ensures in
    let some = sym c.body_at.ensures ∙ c.in-Some.is in
    let within : p < length xs = next_within bodies step p xs c.in-Some.body some in
    let x : Entry = c.index_mut.result.now in
    done_in_order bodies step p xs x c.in-Some.body within (entry_here p xs x within c.index_mut.ensures.value) c.requires e.before e.after some

pub returns-clause-gives : goal.returns-clause-gives
returns-clause-gives c =
    let bodies = c.args.script.now.bodies in
    let step = c.args.step.0 in
    let xs = c.args.order.now.items in
    let e = c.place_of-place.ensures in
    gives_first bodies step xs _ _ (one_next bodies step c.place_of-place.result xs c.in-Some.body e.before e.after (sym c.body_at.ensures ∙ c.in-Some.is))

pub returns-clause-left : goal.returns-clause-left
returns-clause-left c =
    let bodies = c.args.script.now.bodies in
    let step = c.args.step.0 in
    let xs = c.args.order.now.items in
    let p = c.place_of-place.result in
    let e = c.place_of-place.ensures in
    let some = sym c.body_at.ensures ∙ c.in-Some.is in
    let within : p < length xs = next_within bodies step p xs c.in-Some.body some in
    let x : Entry = c.index_mut.result.now in
    let second = some_there c.body_at-2.result c.if-is_none.ensures in
    done_left bodies step p xs x c.in-Some.body within (entry_here p xs x within c.index_mut.ensures.value) c.requires e.before e.after some
    second.0 (sym c.body_at-2.ensures ∙ second.1)
