use Rattle.std.proofs.Common.{ap}
use Rattle.executor_core.specs.declared.call.Call.TheVariants as call
use Rattle.executor_core.specs.declared.call.Reply.TheVariants as reply
use Rattle.executor_core.specs.Histories.{entry}
use Rattle.xthread.proofs.Whole.{grown_told, noted_as}
use Rattle.xthread.proofs.executor.Executor.next.Goals as goal

pub returns-in-Start-clause-told : goal.returns-in-Start-clause-told
returns-in-Start-clause-told g c = let noted = noted_as c.note.ensures (ap (λ l. entry 0 call.Next (reply.Start c.in-Start.request c.in-Start.step l)) c.copy.ensures) in
    grown_told c.take-held.ensures noted c.value_mut.ensures.value c.in-Start.ensures.told.gains c.next.ensures.sound

pub returns-in-Stop-clause-told : goal.returns-in-Stop-clause-told
returns-in-Stop-clause-told g c = grown_told c.take-held.ensures c.note-in-Stop.ensures c.value_mut.ensures.value c.in-Stop.ensures.told.gains c.next.ensures.sound
