use Rattle.std.proofs.Common.{refl, inl, inr, ap, ◌∙◌, ◌∷◌, ◌++◌, [], append_assoc}
use Rattle.kj_base.specs.declared.outcomes.Outcome.TheVariants.{Value}
use Rattle.executor_core.specs.declared.call.Call.TheVariants.{Next, Finish}
use Rattle.executor_core.specs.declared.call.Reply.TheVariants.{Start, Done}
use Rattle.count_lock.specs.Passes.{mine}
use Rattle.executor_core.specs.Histories.{entry}
use Rattle.executor_core.proofs.Opens.{started_but, all_finished, still_finished}
use Rattle.executor_tests.proofs.target.serve_once.Goals as goal

pub returns-in-Start-clause-idle : goal.returns-in-Start-clause-idle
returns-in-Start-clause-idle g c = record {
  ready = c.finish.ensures.told.ready;
  first = c.finish.ensures.told.same.number ∙ c.in-Start.ensures.told.same.number ∙ c.requires.first;
  finished = all_finished _ _ _ _ c.finish.ensures.gains.own (started_but _ _ _ _ _ c.in-Start.ensures.answer.gains.own c.requires.finished);
}

pub returns-in-Stop-clause-idle : goal.returns-in-Stop-clause-idle
returns-in-Stop-clause-idle g c = record {
  ready = c.in-Stop.ensures.told.ready;
  first = c.in-Stop.ensures.told.same.number ∙ c.requires.first;
  finished = still_finished _ _ _ c.in-Stop.ensures.answer.gains.own (λ r. refl) c.requires.finished;
}

pub returns-in-Start-clause-turn : goal.returns-in-Start-clause-turn
returns-in-Start-clause-turn g c = let s = c.in-Start.ensures.answer.gains.own in inr (inr (refl, (c.in-Start.request, c.in-Start.field-1, c.in-Start.words, c.finish.ensures.gains.own ∙ ap (λ l. l ++ entry 0 (Finish c.in-Start.request (Value c.in-Start.words)) Done ∷ []) s ∙ append_assoc (mine c.args.pass.now) (entry 0 Next (Start c.in-Start.request c.in-Start.field-1 c.in-Start.words) ∷ []) (entry 0 (Finish c.in-Start.request (Value c.in-Start.words)) Done ∷ []))))

pub returns-in-Stop-clause-turn : goal.returns-in-Stop-clause-turn
returns-in-Stop-clause-turn g c = inr (inl (refl, (_, c.in-Stop.ensures.answer.gains.own)))

pub returns-in-Empty-clause-turn : goal.returns-in-Empty-clause-turn
returns-in-Empty-clause-turn g c = inl (refl, c.in-Empty.ensures.answer.own)
