use Rattle.kj_ownership.proofs.Taking.{takes_event, ends_event, ends_unawaited}
use Rattle.kj_ownership.proofs.Turns.{turn_passes}
use Rattle.kj_ownership.proofs.laws.events_fire_and_end.Goals as goal

pub returns-clause-taken : goal.returns-clause-taken
returns-clause-taken c = takes_event

pub returns-clause-ended : goal.returns-clause-ended
returns-clause-ended c = ends_event

pub returns-clause-unawaited : goal.returns-clause-unawaited
returns-clause-unawaited c = ends_unawaited

pub returns-clause-turned : goal.returns-clause-turned
returns-clause-turned c = λ setting s fits r. (turn_passes setting s fits r).rests
