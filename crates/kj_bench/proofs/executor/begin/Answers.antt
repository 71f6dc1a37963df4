use Rattle.executor_core.proofs.Opens.{submitted_but}
use Rattle.kj_bench.proofs.executor.begin.Goals as goal

pub returns-in-Ok-clause-some : goal.returns-in-Ok-clause-some
returns-in-Ok-clause-some g c = record { ready = c.in-Ok.ensures.told.ready; holds = c.in-Ok.ensures.holds; others = submitted_but _ _ _ _ _ _ c.in-Ok.ensures.gains.own c.requires.spent }
