use Rattle.std.proofs.Common.{ap}
use Rattle.executor_core.specs.declared.call.Call.TheVariants as call
use Rattle.executor_core.specs.declared.call.Reply.TheVariants as reply
use Rattle.executor_core.specs.Histories.{entry}
use Rattle.xthread.proofs.Whole.{grown_told, noted_as}
use Rattle.xthread.proofs.executor.Executor.finish.Goals as goal

pub returns-clause-told : goal.returns-clause-told
returns-clause-told g c = let noted = noted_as c.note_end.ensures (ap (λ o. entry 0 (call.Finish c.args.request o) reply.Done) c.copy.ensures) in
    grown_told c.take-held.ensures noted c.value_mut.ensures.value c.finish.ensures.told c.finish.ensures.sound
