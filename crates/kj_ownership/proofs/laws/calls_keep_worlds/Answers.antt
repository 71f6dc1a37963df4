use Rattle.kj_ownership.proofs.Calls.{new_kept, call_keeps}
use Rattle.kj_ownership.proofs.laws.calls_keep_worlds.Goals as goal

pub returns-clause-start : goal.returns-clause-start
returns-clause-start c = new_kept

pub returns-clause-step : goal.returns-clause-step
returns-clause-step c = call_keeps
