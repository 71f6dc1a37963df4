use Rattle.executor_core.proofs.Opens.{submitted_but}
use Rattle.executor_tests.proofs.watcher.ask_and_watch.Goals as goal

pub settle_by_sight-requires : goal.settle_by_sight-requires
settle_by_sight-requires g c = record { ready = c.in-Ok.ensures.told.ready; holds = c.in-Ok.ensures.holds; others = submitted_but _ _ _ _ _ _ c.in-Ok.ensures.gains.own c.requires.spent }
