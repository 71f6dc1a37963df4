-- The lines so far lead to this log, and the others are left.
use Rattle.std.proofs.Common.{◌≡◌, length, map}
use Rattle.kj_model.specs.Log.{Logged, limits_or, log_lines, new_log, setting_of}
use Rattle.loop_core.specs.Loops.{StandsAt}
use Rattle.promise_commands.specs.Scripts.{body_of, numbered_of}
use Rattle.promise_steps.specs.Kept.{told_by}
use Rattle.kj_script.specs.Running.{Shows}
use Rattle.kj_script.proofs.run.run_on.Given as goal

abbrev pub invariant-loop-left : goal.invariant-loop-left
invariant-loop-left g l =
    (now : Logged)
    × Shows (map body_of l.fn.script.bodies) (StandsAt g.N.Nodes.rule (g.N.Nodes.stands l.over.nodes) (g.M.Names.stands l.over.names)) (told_by l.steps) l.text now
    × (log_lines (setting_of g.N.Nodes.rule (map body_of l.fn.script.bodies)) (map numbered_of l.fn.script.lines) (new_log (limits_or l.fn.script.limits))
    ≡ log_lines (setting_of g.N.Nodes.rule (map body_of l.fn.script.bodies)) (map numbered_of l.left) now)

abbrev pub decreases-loop-left : goal.decreases-loop-left
decreases-loop-left g l = length l.left
