-- What the parts so far are read as.
use Rattle.std.proofs.Common.{◌≡◌, ◌≤◌, Some, take, length}
use Rattle.promise_script.specs.Decode.{all_read, name_read}
use Rattle.promise_script.proofs.Lists.{now_of}
use Rattle.promise_script.proofs.fields.read_names.Given as goal

abbrev pub invariant-loop-part : goal.invariant-loop-part
invariant-loop-part l = (all_read (name_read) (take l.part-index (now_of l.parts)) ≡ Some l.names) × (length l.names ≡ l.part-index) × (length l.parts ≤ 8)
