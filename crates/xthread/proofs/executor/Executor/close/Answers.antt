use Rattle.std.proofs.Common.{ap, sym, ◌∙◌, subst, Bool}
use Rattle.std.specs.Bool.{OnTrue, OnFalse}
use Rattle.executor_core.specs.declared.call.Call.TheVariants as call
use Rattle.executor_core.specs.declared.call.Reply.TheVariants as reply
use Rattle.executor_core.specs.Histories.{entry}
use Rattle.executor_core.proofs.Legal.{closed_settled}
use Rattle.xthread.specs.Stock.{Grown}
use Rattle.xthread.specs.Answers.{board, Unchanged}
use Rattle.xthread.proofs.Whole.{grown_told, grown_board, left_told, left_board}
use Rattle.xthread.proofs.executor.Executor.close.Goals as goal

pub returns-then-close-clause-told : goal.returns-then-close-clause-told
returns-then-close-clause-told g c = let grew = subst (λ (b : Bool). OnTrue b (Grown c.value_mut.result.now c.close.new.self (entry 0 call.Close reply.Done))) c.if-close.true c.close.ensures.opened in
    grown_told c.take-held.ensures c.note_close.ensures c.value_mut.ensures.value grew c.close.ensures.sound

pub returns-then-close-clause-settled : goal.returns-then-close-clause-settled
returns-then-close-clause-settled g c = let grew = subst (λ (b : Bool). OnTrue b (Grown c.value_mut.result.now c.close.new.self (entry 0 call.Close reply.Done))) c.if-close.true c.close.ensures.opened in
    let told = grown_told c.take-held.ensures c.note_close.ensures c.value_mut.ensures.value grew c.close.ensures.sound in
    closed_settled _ _ told.ready.legal (ap (λ d. d.closed) (sym (grown_board c.take-held.ensures c.note_close.ensures c.value_mut.ensures.value grew)) ∙ c.close.ensures.closed)

pub returns-else-close-clause-told : goal.returns-else-close-clause-told
returns-else-close-clause-told g c = let still = subst (λ (b : Bool). OnFalse b (Unchanged c.value_mut.result.now c.close.new.self 0 call.Close reply.Done)) c.if-close.false c.close.ensures.again in
    left_told c.take-held.ensures c.leave.ensures c.value_mut.ensures.value still.same c.close.ensures.sound

pub returns-else-close-clause-settled : goal.returns-else-close-clause-settled
returns-else-close-clause-settled g c = let still = subst (λ (b : Bool). OnFalse b (Unchanged c.value_mut.result.now c.close.new.self 0 call.Close reply.Done)) c.if-close.false c.close.ensures.again in
    let told = left_told c.take-held.ensures c.leave.ensures c.value_mut.ensures.value still.same c.close.ensures.sound in
    closed_settled _ _ told.ready.legal (ap (λ d. d.closed) (sym (left_board c.take-held.ensures c.leave.ensures c.value_mut.ensures.value) ∙ ap board (sym still.same)) ∙ c.close.ensures.closed)
