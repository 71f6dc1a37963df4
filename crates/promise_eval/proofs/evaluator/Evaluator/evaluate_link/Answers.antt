use Rattle.promise_eval.proofs.evaluator.Evaluator.evaluate_link.Goals as goal

pub returns-clause-gives : goal.returns-clause-gives
returns-clause-gives g c = rw (← c.self.view_is) c.evaluate_link.ensures.gives
