use Rattle.executor_core.proofs.Opens.{submitted_but}
use Rattle.executor_tests.proofs.submitter.ask.Goals as goal

pub withdraw-requires : goal.withdraw-requires
withdraw-requires g c = record { ready = c.in-Ok.ensures.told.ready; holds = c.in-Ok.ensures.holds; others = submitted_but _ _ _ _ _ _ c.in-Ok.ensures.gains.own c.requires.spent }

pub settle-requires : goal.settle-requires
settle-requires g c = record { ready = c.in-Ok.ensures.told.ready; holds = c.in-Ok.ensures.holds; others = submitted_but _ _ _ _ _ _ c.in-Ok.ensures.gains.own c.requires.spent }
