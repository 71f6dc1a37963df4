-- The lines that are left end the body as all of them do.
use Rattle.std.proofs.Common.{◌≡◌, [], length}
use Rattle.promise_script.specs.Left.{action_from}
use Rattle.promise_script.specs.ScriptText.{lines_of}
use Rattle.promise_script.proofs.bodies.read_action.Given as goal

abbrev pub invariant-loop-rest : goal.invariant-loop-rest
invariant-loop-rest l = action_from l.commands (lines_of l.rest) ≡ action_from [] (lines_of l.octets)

abbrev pub decreases-loop-rest : goal.decreases-loop-rest
decreases-loop-rest l = length l.rest
