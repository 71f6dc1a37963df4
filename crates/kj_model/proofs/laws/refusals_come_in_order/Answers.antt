use Rattle.kj_model.proofs.Refusals.{refusal_first, answer_first, refused_same}
use Rattle.kj_model.proofs.laws.refusals_come_in_order.Goals as goal

pub returns-clause-first : goal.returns-clause-first
returns-clause-first c = refusal_first

pub returns-clause-answer : goal.returns-clause-answer
returns-clause-answer c = answer_first

pub returns-clause-same : goal.returns-clause-same
returns-clause-same c = refused_same
