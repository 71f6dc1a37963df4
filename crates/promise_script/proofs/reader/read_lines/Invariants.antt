-- What is kept is kept of a reading, which is read on as the whole text is; and the numbers have room.
use Rattle.std.proofs.Common.{length}
use Rattle.promise_script.proofs.Keeping.{Reads}
use Rattle.promise_script.proofs.reader.read_lines.Given as goal

abbrev pub invariant-loop-rest : goal.invariant-loop-rest
invariant-loop-rest l = Reads l.octets l.kept l.number l.rest

abbrev pub decreases-loop-rest : goal.decreases-loop-rest
decreases-loop-rest l = length l.rest
