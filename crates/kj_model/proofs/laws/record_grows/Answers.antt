use Rattle.kj_model.proofs.Called.{call_grows, calls_grow}
use Rattle.kj_model.proofs.laws.record_grows.Goals as goal

pub returns-clause-one : goal.returns-clause-one
returns-clause-one c = call_grows

pub returns-clause-all : goal.returns-clause-all
returns-clause-all c = calls_grow
