use Rattle.std.proofs.Common.{◌≡◌, ◌++◌, take, vec_capacity}
use Rattle.executor_core.proofs.log.append.Given as goal

abbrev pub invariant-loop-word : goal.invariant-loop-word
invariant-loop-word l = (l.to.items ≡ l.initial.to.items ++ take l.word-index l.words) × (vec_capacity l.to ≡ vec_capacity l.initial.to)
