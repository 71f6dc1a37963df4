use Rattle.std.proofs.Common.{rules, sym, subst, ap, ◌∙◌}
use Rattle.std.specs.Prelude.{nat_lt}
use Rattle.std.proofs.lemmas.List.Sorted.{IsPartitionPoint-from_clause, IsPartitionedBy-ltb}
use Rattle.name_table.specs.declared.entries.Entry.{Entry}
use Rattle.name_table.specs.Entries.{IsRising, rank}
use Rattle.name_table.proofs.Ranks.{rising_ordered, rank_is}
use Rattle.name_table.proofs.entries.place_of.Goals as goal

pub returns-clause-place : goal.returns-clause-place
returns-clause-place c =
    let n = c.args.name.0 in
    let rising : IsRising c.deref.result.now = subst IsRising (sym c.deref.ensures.value) c.requires in
    let parted = IsPartitionedBy-ltb (λ (e : Entry). e.name.0) c.deref.result.now n (rising_ordered c.deref.result.now rising) in
    let point = IsPartitionPoint-from_clause (λ (e : Entry). nat_lt e.name.0 n) _ _ c.partition_point.ensures.partitioned parted (λ a r q k. search rules) in
    rank_is n c.deref.result.now c.partition_point.result point c.partition_point.ensures.bound
    ∙ ap (rank n) c.deref.ensures.value
