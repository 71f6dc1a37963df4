-- What was done, and the turns that are left; no step lacked memory so far.
use Rattle.std.proofs.Common.{◌≤◌, length}
use Rattle.std.specs.Prelude.{max}
use Rattle.kj_model.specs.Calls.{run}
use Rattle.loop_core.specs.Loops.{StandsAt}
use Rattle.loop_core.proofs.Called.{Found}
use Rattle.loop_core.proofs.running.run_over.Given as goal

abbrev pub invariant-loop-left : goal.invariant-loop-left
invariant-loop-left g l =
    (length (g.M.Names.over l.over.names) ≤ max 1 (length (g.M.Names.over l.initial.over.names)))
    × Found (StandsAt g.N.Nodes.rule (g.N.Nodes.stands l.initial.over.nodes) (g.M.Names.stands l.initial.over.names)) (StandsAt g.N.Nodes.rule (g.N.Nodes.stands l.over.nodes) (g.M.Names.stands l.over.names)) g.N.Nodes.rule
    (λ setting. run setting l.turns) (λ setting. run setting l.left) (g.S.Steps.told l.initial.steps) (g.S.Steps.told l.steps) (g.S.Steps.lacks l.initial.steps) (g.S.Steps.lacks l.steps)

abbrev pub decreases-loop-left : goal.decreases-loop-left
decreases-loop-left g l = l.left
