-- The bodies, and their stable sort.
use Rattle.std.proofs.Common.{◌≡◌, List, rules, ◌∙◌}
use Rattle.std.proofs.lemmas.List.{take_all}
use Rattle.std.proofs.lemmas.Fn.{always_returns_same}
use Rattle.std.proofs.lemmas.List.Sorted.{IsNonDecreasingBy-from_sort_by_key}
use Rattle.promise_steps.specs.declared.order.Entry.{Entry}
use Rattle.promise_steps.specs.Order.{step_of}
use Rattle.promise_steps.proofs.Sorting.{fresh_sorted, sorted_in_order, sorted_left}
use Rattle.promise_steps.proofs.order.order_of.Goals as goal

pub returns-clause-in_order : goal.returns-clause-in_order
returns-clause-in_order c =
    let bodies = c.args.script.now.bodies in
    let xs : List Entry = c.loop-which.order.items in
    let ys : List Entry = c.sort_by_key.new.self.items in
    sorted_in_order bodies ys (IsNonDecreasingBy-from_sort_by_key (step_of bodies) ys c.in_ok-sort_by_key.ensures.sorted (λ a r q k. search rules))
    (fresh_sorted xs ys c.in_ok-sort_by_key.ensures.permutation c.loop-which.invariant.1)

pub returns-clause-left : goal.returns-clause-left
returns-clause-left c =
    let bodies = c.args.script.now.bodies in
    let xs : List Entry = c.loop-which.order.items in
    let ys : List Entry = c.sort_by_key.new.self.items in
    sorted_left bodies xs ys (c.loop-which.invariant.0 ∙ take_all c.loop-which.which bodies (search rules))
    (c.in_ok-sort_by_key.ensures.stable (step_of bodies) (always_returns_same _ (λ a r. r ≡ step_of bodies a.0.now) _ (λ a r q k. (search rules, search rules))))
    c.loop-which.invariant.1 (fresh_sorted xs ys c.in_ok-sort_by_key.ensures.permutation c.loop-which.invariant.1)
