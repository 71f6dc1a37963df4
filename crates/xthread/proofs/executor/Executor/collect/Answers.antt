use Rattle.std.proofs.Common.{ap, sym}
use Rattle.executor_core.specs.declared.call.Call.TheVariants as call
use Rattle.executor_core.specs.declared.call.Reply.TheVariants as reply
use Rattle.executor_core.specs.Histories.{entry}
use Rattle.xthread.proofs.Whole.{grown_told, left_told, left_stays, left_holds, known_collects, noted_as}
use Rattle.xthread.proofs.executor.Executor.collect.Goals as goal

pub returns-in-Ended-clause-told : goal.returns-in-Ended-clause-told
returns-in-Ended-clause-told g c = let noted = noted_as c.note.ensures (ap (λ o. entry c.number-caller.result (call.Collect c.args.ticket.request) (reply.Ended o)) c.copy.ensures) in
    grown_told c.take-held.ensures noted c.value_mut.ensures.value c.in-Ended.ensures.told.gains c.collect.ensures.sound

pub returns-in-NotYet-clause-known : goal.returns-in-NotYet-clause-known
returns-in-NotYet-clause-known g c = let still = c.in-NotYet.ensures.told in let told = left_told c.take-held.ensures c.leave.ensures c.value_mut.ensures.value still.tells.same c.collect.ensures.sound in
    λ k. known_collects c.args.ticket told (left_stays c.take-held.ensures c.leave.ensures c.value_mut.ensures.value (sym c.number-caller.ensures) still.tells) (left_holds c.take-held.ensures c.leave.ensures c.requires.holds) k
