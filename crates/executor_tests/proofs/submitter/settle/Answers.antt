use Rattle.std.proofs.Common.{refl, eq-eqb}
use Rattle.executor_core.proofs.Opens.{all_spent}
use Rattle.executor_tests.proofs.submitter.settle.Goals as goal

pub returns-in-Ended-clause-idle : goal.returns-in-Ended-clause-idle
returns-in-Ended-clause-idle g c = record { ready = c.in-Ended.ensures.told.ready; spent = all_spent c.loop.ticket.request _ _ _ c.in-Ended.ensures.answer.gains.own (λ r. refl) (eq-eqb _ _ refl) c.loop.invariant.1.others }
