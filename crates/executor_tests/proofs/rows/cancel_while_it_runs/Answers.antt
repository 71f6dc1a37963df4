use Rattle.std.proofs.Common.{refl, sym, ap, subst, ◌∙◌}
use Rattle.executor_core.specs.Histories.{Outstanding, Unfinished}
use Rattle.executor_core.proofs.Opens.{submitted_but, still_but, started_but, still_finished_but, all_finished}
use Rattle.xthread.specs.Answers.{request}
use Rattle.executor_tests.proofs.rows.cancel_while_it_runs.Goals as goal

pub collect_what_ran-requires : goal.collect_what_ran-requires
collect_what_ran-requires g c = let a = c.in-Asked.ensures.answer in let b = c.in-NotYet.ensures.answer in record {
  ready = c.in-NotYet.ensures.told.ready;
  holds = b.holds;
  others = λ r u. still_but c.in-Ok.ticket.request _ _ _ a.tells.own (λ r. refl) (submitted_but _ _ _ _ _ _ c.in-Ok.ensures.gains.own c.requires.1.spent) r (subst (λ l. Outstanding l r) b.tells.own u)
      ∙ sym (ap request a.same) ∙ sym (ap request b.same);
}

pub returns : goal.returns
returns g c = let e = c.in-Empty.ensures in let s = c.in-Stop.ensures in let f = c.finish.ensures in (
  record {
    ready = f.told.ready;
    first = f.told.same.number ∙ s.told.same.number ∙ e.told.same.number ∙ c.in-Start.ensures.told.same.number ∙ c.requires.0.first;
    finished = all_finished _ _ _ _ f.gains.own (still_finished_but c.in-Start.request _ _ _ s.answer.gains.own (λ r. refl)
        (λ r u. started_but _ _ _ _ _ c.in-Start.ensures.answer.gains.own c.requires.0.finished r (subst (λ l. Unfinished l r) e.answer.own u)));
  },
  c.collect_what_ran.ensures,
)
