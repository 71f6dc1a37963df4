use Rattle.executor_core.specs.Acts.{shut}
use Rattle.executor_core.proofs.Searches.{map_step}
use Rattle.executor_core.proofs.search.shut_each.Goals as goal

pub loop-q-preserved : goal.loop-q-preserved
loop-q-preserved c = map_step shut c.args.all.now c.loop-q.all c.loop-q.q-index _ _ c.loop-q-test.true c.loop-q.invariant c.shut.ensures
