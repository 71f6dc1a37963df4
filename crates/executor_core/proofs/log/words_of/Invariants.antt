use Rattle.std.proofs.Common.{◌≡◌, take, drop}
use Rattle.executor_core.proofs.log.words_of.Given as goal

abbrev pub invariant-loop-word : goal.invariant-loop-word
invariant-loop-word l = l.words ≡ take l.word-index (take l.fn.line.count (drop l.fn.line.from l.fn.all))
