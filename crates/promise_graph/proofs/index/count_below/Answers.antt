use Rattle.std.proofs.Common.{rules, subst, sym}
use Rattle.std.specs.Prelude.{List, nat_lt}
use Rattle.std.proofs.lemmas.List.Sorted.{IsPartitionPoint-from_clause, IsPartitionedBy-ltb}
use Rattle.promise_graph.specs.declared.index.Entry.{Entry}
use Rattle.promise_graph.specs.Slots.{IsRising, AreBelow}
use Rattle.promise_graph.proofs.Numbered.{rising_ordered}
use Rattle.promise_graph.proofs.index.count_below.Goals as goal

pub returns-clause-below : goal.returns-clause-below
returns-clause-below c =
    let n = c.args.n in
    let rising : IsRising c.deref.result.now = subst IsRising (sym c.deref.ensures.value) c.requires in
    let parted = IsPartitionedBy-ltb (λ (e : Entry). e.number) c.deref.result.now n (rising_ordered c.deref.result.now rising) in
    let point = IsPartitionPoint-from_clause (λ (e : Entry). nat_lt e.number n) _ _ c.partition_point.ensures.partitioned parted (λ a r q k. search rules) in
    subst (λ (l : List Entry). AreBelow n l c.partition_point.result) c.deref.ensures.value point
