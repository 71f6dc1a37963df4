-- What is left behind the lines so far is what was left before them, and the numbers have room.
use Rattle.std.proofs.Common.{◌≡◌, ◌+◌, ◌<◌, ◌^◌, false, length}
use Rattle.promise_script.specs.Left.{lines_left}
use Rattle.promise_script.specs.ScriptText.{lines_of}
use Rattle.promise_script.proofs.left.LinesLeft.next.Given as goal

abbrev pub invariant-finding : goal.invariant-finding
invariant-finding l =
    (lines_left l.number l.inside (lines_of l.rest) ≡ l.fn.self) × (l.number + length l.rest < 2 ^ 32)
    × (lines_left l.self-inside.number false (lines_of l.self-inside.rest.now) ≡ l.fn.self) × (l.self-inside.number + length l.self-inside.rest.now < 2 ^ 32)

abbrev pub decreases-finding : goal.decreases-finding
decreases-finding l = length l.rest
