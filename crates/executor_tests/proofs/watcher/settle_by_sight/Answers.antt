use Rattle.std.proofs.Common.{refl, eq-eqb}
use Rattle.executor_core.proofs.Opens.{all_spent}
use Rattle.executor_tests.proofs.watcher.settle_by_sight.Goals as goal

pub returns-clause-idle : goal.returns-clause-idle
returns-clause-idle g c = let told = c.in-Ended.ensures.told in let answer = c.in-Ended.ensures.answer in record { ready = told.ready; spent = all_spent c.args.ticket.request _ _ _ answer.gains.own (λ r. refl) (eq-eqb _ _ refl) c.watch.ensures.one.others }
