use Rattle.std.proofs.Common.{refl, eq-eqb, sym, ap, ◌∙◌}
use Rattle.xthread.specs.Answers.{request}
use Rattle.executor_core.proofs.Opens.{all_spent, still_but}
use Rattle.executor_tests.proofs.submitter.withdraw.Goals as goal

pub returns-in-Withdrawn-clause-idle : goal.returns-in-Withdrawn-clause-idle
returns-in-Withdrawn-clause-idle g c = record { ready = c.in-Withdrawn.ensures.told.ready; spent = all_spent c.args.ticket.request _ _ _ c.in-Withdrawn.ensures.answer.gains.own (λ r. refl) (eq-eqb _ _ refl) c.requires.others }

pub settle-requires : goal.settle-requires
settle-requires g c = let a = c.in-Asked.ensures.answer in record {
  ready = c.in-Asked.ensures.told.ready;
  holds = a.holds;
  others = λ r u. still_but c.args.ticket.request _ _ _ a.tells.own (λ r. refl) c.requires.others r u ∙ sym (ap request a.same);
}
