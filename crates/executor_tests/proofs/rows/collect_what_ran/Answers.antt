use Rattle.std.proofs.Common.{refl, eq-eqb, sym, ap, subst, ◌∙◌}
use Rattle.executor_core.specs.Histories.{Outstanding}
use Rattle.executor_core.proofs.Opens.{all_spent}
use Rattle.xthread.specs.Answers.{request}
use Rattle.executor_tests.proofs.rows.collect_what_ran.Goals as goal

pub returns : goal.returns
returns g c = let a = c.in-TooLate.ensures.answer in record {
  ready = c.in-Ended-Broken-Ran.ensures.told.ready;
  spent = all_spent c.in-TooLate.ticket.request _ _ _ c.in-Ended-Broken-Ran.ensures.answer.gains.own (λ r. refl) (eq-eqb _ _ refl)
      (λ r u. c.requires.others r (subst (λ l. Outstanding l r) a.tells.own u) ∙ sym (ap request a.same));
}
