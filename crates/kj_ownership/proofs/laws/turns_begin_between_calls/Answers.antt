use Rattle.kj_ownership.proofs.Calls.{rests_of}
use Rattle.kj_ownership.proofs.Waits.{held_rests}
use Rattle.kj_ownership.proofs.laws.turns_begin_between_calls.Goals as goal

pub returns-clause-kept : goal.returns-clause-kept
returns-clause-kept c = rests_of

pub returns-clause-waits : goal.returns-clause-waits
returns-clause-waits c = λ name root s k at. held_rests name root s at k.none_awaited (rests_of s k)
