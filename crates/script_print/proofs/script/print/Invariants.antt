-- The limits and the bodies so far; the lines that are left outside them.
use Rattle.std.proofs.Common.{◌≡◌, ◌++◌, length, map, take}
use Rattle.std.specs.Prelude.{flat_map}
use Rattle.promise_script.specs.Scripts.{limits_meanings}
use Rattle.script_print.specs.Printed.{body_meanings, outside_meaning, printed, printed_lines}
use Rattle.script_print.proofs.script.print.Given as goal

abbrev pub invariant-loop-which : goal.invariant-loop-which
invariant-loop-which l =
    l.text ≡ printed_lines (limits_meanings l.fn.script.limits) ++ printed_lines
    (flat_map body_meanings (take l.which l.fn.script.bodies))

abbrev pub invariant-loop-left : goal.invariant-loop-left
invariant-loop-left l = printed l.fn.script ≡ l.text ++ printed_lines (map outside_meaning l.left)

abbrev pub decreases-loop-left : goal.decreases-loop-left
decreases-loop-left l = length l.left
