use Rattle.std.proofs.Common.{◌∙◌}
use Rattle.executor_core.proofs.Opens.{started_but, all_finished}
use Rattle.executor_tests.proofs.rows.run_one.Goals as goal

pub returns : goal.returns
returns g c = record {
  ready = c.finish.ensures.told.ready;
  first = c.finish.ensures.told.same.number ∙ c.in-Start.ensures.told.same.number ∙ c.requires.first;
  finished = all_finished _ _ _ _ c.finish.ensures.gains.own (started_but _ _ _ _ _ c.in-Start.ensures.answer.gains.own c.requires.finished);
}
