use Rattle.executor_core.proofs.Opens.{submitted_but}
use Rattle.executor_tests.proofs.looks.look_twice.Goals as goal

pub look-requires : goal.look-requires
look-requires g c = record { ready = c.in-Ok.ensures.told.ready; holds = c.in-Ok.ensures.holds; others = submitted_but _ _ _ _ _ _ c.in-Ok.ensures.gains.own c.requires.spent }
