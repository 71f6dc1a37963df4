use Rattle.std.proofs.Common.{◌≡◌, [], take, drop}
use Rattle.kj_model.specs.World.{World}
use Rattle.kj_model.specs.Uses.{first_failing}
use Rattle.promise_apply.specs.Building.{Both}
use Rattle.promise_apply.specs.Uses.{has_fault, uses_shown}
use Rattle.promise_apply.proofs.naming.first_fault.Given as goal

abbrev pub invariant-loop-i : goal.invariant-loop-i
invariant-loop-i g l = (w : World) → Both (g.N.Nodes.stands l.nodes) (g.M.Names.stands l.names) w → first_failing (has_fault l.fault w) [] (uses_shown l.uses) ≡ first_failing (has_fault l.fault w) (uses_shown (take l.i l.uses)) (uses_shown (drop l.i l.uses))
