-- The words copied so far.
use Rattle.std.proofs.Common.{◌≡◌, take}
use Rattle.kj_base.proofs.words.Words.copy.Given as goal

abbrev pub invariant-loop-word : goal.invariant-loop-word
invariant-loop-word l = l.items.items ≡ take l.word-index l.source
