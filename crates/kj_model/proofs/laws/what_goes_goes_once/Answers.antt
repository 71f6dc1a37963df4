use Rattle.kj_model.proofs.Once.{once}
use Rattle.kj_model.proofs.Ordered.{in_order}
use Rattle.kj_model.proofs.laws.what_goes_goes_once.Goals as goal

pub returns-clause-once : goal.returns-clause-once
returns-clause-once c = once

pub returns-clause-order : goal.returns-clause-order
returns-clause-order c = in_order
