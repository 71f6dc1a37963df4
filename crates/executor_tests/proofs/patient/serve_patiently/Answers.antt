use Rattle.std.proofs.Common.{refl, ◌∙◌}
use Rattle.executor_core.proofs.Opens.{started_but, all_finished, still_finished}
use Rattle.executor_tests.proofs.patient.serve_patiently.Goals as goal

pub run-requires : goal.run-requires
run-requires g c = let s = c.in-Start.ensures in record {
  ready = s.told.ready;
  first = s.told.same.number ∙ c.requires.first;
  runs = s.answer.runs;
  others = started_but _ _ _ _ _ s.answer.gains.own c.requires.finished;
}

pub returns-in-Start-clause-idle : goal.returns-in-Start-clause-idle
returns-in-Start-clause-idle g c = let r = c.run.ensures.runs in let f = c.finish.ensures in record {
  ready = f.told.ready;
  first = f.told.same.number ∙ r.first;
  finished = all_finished _ _ _ _ f.gains.own r.others;
}

pub returns-in-Stop-clause-idle : goal.returns-in-Stop-clause-idle
returns-in-Stop-clause-idle g c = let s = c.in-Stop.ensures in record {
  ready = s.told.ready;
  first = s.told.same.number ∙ c.requires.first;
  finished = still_finished _ _ _ s.answer.gains.own (λ r. refl) c.requires.finished;
}
