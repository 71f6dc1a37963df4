use Rattle.std.proofs.Common.{refl, eq-eqb, subst}
use Rattle.executor_core.specs.Histories.{Outstanding}
use Rattle.executor_core.proofs.Opens.{all_spent, submitted_but}
use Rattle.executor_tests.proofs.rows.close_with_one_queued.Goals as goal

pub returns : goal.returns
returns g c = (
  c.close.ensures.told.ready,
  record {
    ready = c.in-Ended-Broken-Unstarted.ensures.told.ready;
    spent = all_spent c.in-Ok.ticket.request _ _ _ c.in-Ended-Broken-Unstarted.ensures.answer.gains.own (λ r. refl) (eq-eqb _ _ refl)
        (λ r u. submitted_but _ _ _ _ _ _ c.in-Ok.ensures.gains.own c.requires.1.spent r (subst (λ l. Outstanding l r) c.in-Err-Closed-default.ensures.err.0.own u));
  },
)
