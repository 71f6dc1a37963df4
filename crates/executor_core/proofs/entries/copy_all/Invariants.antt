use Rattle.std.proofs.Common.{◌≡◌, take, vec_capacity}
use Rattle.executor_core.proofs.entries.copy_all.Given as goal

abbrev pub invariant-loop-place : goal.invariant-loop-place
invariant-loop-place l = (l.items.items ≡ take l.place l.initial.log.entries) × (vec_capacity l.items ≡ vec_capacity l.initial.items)
