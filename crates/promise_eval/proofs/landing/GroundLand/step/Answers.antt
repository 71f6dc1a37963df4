use Rattle.promise_eval.proofs.landing.GroundLand.step.Goals as goal

pub returns-clause-gives : goal.returns-clause-gives
returns-clause-gives g c = rw (← c.self.view_is) c.run_step.ensures.gives
