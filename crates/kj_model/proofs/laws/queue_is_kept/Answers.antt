use Rattle.kj_base.proofs.QueueLemmas.{armed_keeps, disarmed_keeps, taken_keeps, rewound_keeps, empty_is}
use Rattle.kj_model.proofs.laws.queue_is_kept.Goals as goal

pub returns-clause-empty : goal.returns-clause-empty
returns-clause-empty c = empty_is

pub returns-clause-armed : goal.returns-clause-armed
returns-clause-armed c = armed_keeps

pub returns-clause-disarmed : goal.returns-clause-disarmed
returns-clause-disarmed c = disarmed_keeps

pub returns-clause-taken : goal.returns-clause-taken
returns-clause-taken c = taken_keeps

pub returns-clause-rewound : goal.returns-clause-rewound
returns-clause-rewound c = rewound_keeps
