use Rattle.promise_walks.proofs.Entered.{branch_seen}
use Rattle.promise_walks.proofs.Fallen.{entered}
use Rattle.promise_walks.proofs.falling.enter.Goals as goal

pub returns-in-Some-clause-enters : goal.returns-in-Some-clause-enters
returns-in-Some-clause-enters g c w way gone stands marks stays sees = c.enter_branch.ensures.enters w way gone stands marks stays (branch_seen _ c.args.shape c.in-Some.hub sees c.in-Some.is)

pub returns-in-None-clause-enters : goal.returns-in-None-clause-enters
returns-in-None-clause-enters g c w way gone stands marks stays sees = entered w _ way gone c.args.node c.args.shape marks stays sees c.in-None.is
