-- What the parts so far are read as.
use Rattle.std.proofs.Common.{◌≡◌, ◌^◌, ◌≤◌, Some, take, length}
use Rattle.promise_script.specs.Decode.{all_read, number_read}
use Rattle.promise_script.proofs.Lists.{now_of}
use Rattle.promise_script.proofs.fields.read_words.Given as goal

abbrev pub invariant-loop-part : goal.invariant-loop-part
invariant-loop-part l = (all_read (number_read (2 ^ 64)) (take l.part-index (now_of l.parts)) ≡ Some l.words) × (length l.words ≡ l.part-index) × (length l.parts ≤ 16)
