use Rattle.executor_core.proofs.Opens.{submitted_but}
use Rattle.executor_tests.proofs.both.ask_both.Goals as goal

pub withdraw-requires : goal.withdraw-requires
withdraw-requires g c = let s = c.in-Ok.ensures in record { ready = s.told.ready; holds = s.holds; others = submitted_but _ _ _ _ _ _ s.gains.own c.requires.0.spent }

pub withdraw-requires-2 : goal.withdraw-requires-2
withdraw-requires-2 g c = let s = c.in-Ok.ensures in record { ready = s.told.ready; holds = s.holds; others = submitted_but _ _ _ _ _ _ s.gains.own c.requires.0.spent }

pub withdraw-requires-3 : goal.withdraw-requires-3
withdraw-requires-3 g c = let s = c.in-Ok-submit.ensures in record { ready = s.told.ready; holds = s.holds; others = submitted_but _ _ _ _ _ _ s.gains.own c.requires.1.spent }
