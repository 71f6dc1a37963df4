use Rattle.kj_ownership.proofs.Calls.{call_keeps}
use Rattle.kj_ownership.proofs.laws.freed_steps_never_run.Goals as goal

pub returns : goal.returns
returns g = λ setting c s fits opens spent k. (call_keeps setting c s fits opens spent k).owned.in_order
