use Rattle.std.proofs.Common.{ap, subst}
use Rattle.executor_core.specs.declared.call.Call.TheVariants as call
use Rattle.executor_core.specs.declared.call.Reply.TheVariants as reply
use Rattle.executor_core.specs.Histories.{entry, of_caller, Outstanding}
use Rattle.xthread.proofs.Whole.{grown_told, grown_holds, noted_as}
use Rattle.xthread.proofs.executor.Executor.submit.Goals as goal

pub returns-in-Ok-clause-told : goal.returns-in-Ok-clause-told
returns-in-Ok-clause-told g c = let noted = noted_as c.note.ensures (ap (λ l. entry c.number-caller.result (call.Submit c.args.step l) (reply.Ticket c.in-Ok.request)) c.copy-said.ensures) in
    grown_told c.take-held.ensures noted c.value_mut.ensures.value c.in-Ok.ensures.grown c.submit.ensures.sound

pub returns-in-Ok-clause-holds : goal.returns-in-Ok-clause-holds
returns-in-Ok-clause-holds g c = let noted = noted_as c.note.ensures (ap (λ l. entry c.number-caller.result (call.Submit c.args.step l) (reply.Ticket c.in-Ok.request)) c.copy-said.ensures) in
    grown_holds c.take-held.ensures noted c.value_mut.ensures.value c.in-Ok.ensures.grown c.submit.ensures.sound c.owner-owner.ensures.0 c.owner-owner.ensures.1
    (subst (λ k. Outstanding (of_caller k c.submit.new.self.entries) c.in-Ok.request) c.number-caller.ensures c.in-Ok.ensures.own)
