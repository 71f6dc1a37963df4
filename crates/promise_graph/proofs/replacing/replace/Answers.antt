use Rattle.promise_graph.proofs.Replaced.{stands_still}
use Rattle.promise_graph.proofs.replacing.replace.Goals as goal

pub returns-in_default-clause-stands : goal.returns-in_default-clause-stands
returns-in_default-clause-stands g c w st live = stands_still _ _ _ _ c.args.old.number.0 c.args.new.number.0 w st (c.in_default.ensures.owner w st live)
