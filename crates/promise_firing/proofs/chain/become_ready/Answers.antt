use Rattle.kj_model.specs.Nodes.{Ready}
use Rattle.kj_model.specs.Changes.{put}
use Rattle.promise_firing.proofs.chain.become_ready.Goals as goal

pub returns-clause-stands : goal.returns-clause-stands
returns-clause-stands g c w st = c.listen.ensures.stands (put c.args.chain.number.0 (Ready c.args.outcome) w) (c.put_bare.ensures.stands w st)
