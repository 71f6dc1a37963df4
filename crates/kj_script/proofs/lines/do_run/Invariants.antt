-- The turns so far lead to a log of which so many turns are left.
use Rattle.std.proofs.Common.{◌≡◌, List}
use Rattle.kj_model.specs.Log.{Body, Logged, run_lines, setting_of}
use Rattle.loop_core.specs.Loops.{StandsAt}
use Rattle.promise_steps.specs.Kept.{told_by}
use Rattle.kj_script.specs.Running.{Shows}
use Rattle.kj_script.proofs.lines.do_run.Given as goal

abbrev pub invariant-loop-left : goal.invariant-loop-left
invariant-loop-left g l =
    (bodies : List Body) (log : Logged)
    → Shows bodies (StandsAt g.N.Nodes.rule (g.N.Nodes.stands l.initial.over.nodes) (g.M.Names.stands l.initial.over.names)) (told_by l.initial.steps) l.initial.text log
    → (now : Logged) × Shows bodies (StandsAt g.N.Nodes.rule (g.N.Nodes.stands l.over.nodes) (g.M.Names.stands l.over.names)) (told_by l.steps) l.text now
    × (run_lines (setting_of g.N.Nodes.rule bodies) l.turns log ≡ run_lines (setting_of g.N.Nodes.rule bodies) l.left now)

abbrev pub decreases-loop-left : goal.decreases-loop-left
decreases-loop-left g l = l.left
