-- The words so far.
use Rattle.std.proofs.Common.{◌≡◌, ◌++◌, take}
use Rattle.kj_model.specs.Text.{all_spaced}
use Rattle.promise_steps.proofs.print.print_words.Given as goal

abbrev pub invariant-loop-word : goal.invariant-loop-word
invariant-loop-word l = l.text ≡ l.fn.text ++ all_spaced (take l.word-index l.words)
