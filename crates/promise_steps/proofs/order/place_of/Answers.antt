-- The bisection splits the entries.
use Rattle.std.proofs.Common.{◌≡◌, List, true, false, take, drop, rules, subst, sym, arith}
use Rattle.std.specs.List.{AllByRecursion}
use Rattle.std.proofs.lemmas.List.Sorted.{IsPartitionPoint-from_clause}
use Rattle.promise_steps.specs.declared.order.Entry.{Entry}
use Rattle.promise_steps.specs.Order.{InOrder, is_before}
use Rattle.promise_steps.proofs.Orders.{parted, all_taken, all_dropped}
use Rattle.promise_steps.proofs.order.place_of.Goals as goal

pub returns-clause-before : goal.returns-clause-before
returns-clause-before c =
    let bodies = c.args.script.now.bodies in
    let step = c.args.step.0 in
    let es : List Entry = c.deref.result.now in
    let order : InOrder bodies es = subst (InOrder bodies) (sym c.deref.ensures.value) c.requires in
    let point = IsPartitionPoint-from_clause (is_before bodies step) _ _ c.partition_point.ensures.partitioned (parted bodies step es order) (λ a r q k. search rules) in
    subst (λ (l : List Entry). AllByRecursion (λ e. is_before bodies step e ≡ true) (take c.partition_point.result l)) c.deref.ensures.value
    (all_taken (λ e. is_before bodies step e ≡ true) es c.partition_point.result c.partition_point.ensures.bound (λ k d low. point.0 k d (omega arith) low))

pub returns-clause-after : goal.returns-clause-after
returns-clause-after c =
    let bodies = c.args.script.now.bodies in
    let step = c.args.step.0 in
    let es : List Entry = c.deref.result.now in
    let order : InOrder bodies es = subst (InOrder bodies) (sym c.deref.ensures.value) c.requires in
    let point = IsPartitionPoint-from_clause (is_before bodies step) _ _ c.partition_point.ensures.partitioned (parted bodies step es order) (λ a r q k. search rules) in
    subst (λ (l : List Entry). AllByRecursion (λ e. is_before bodies step e ≡ false) (drop c.partition_point.result l)) c.deref.ensures.value
    (all_dropped (λ e. is_before bodies step e ≡ false) es c.partition_point.result point.1)
