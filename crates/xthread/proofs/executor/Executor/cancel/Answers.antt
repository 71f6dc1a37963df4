use Rattle.xthread.proofs.Whole.{grown_told}
use Rattle.xthread.proofs.executor.Executor.cancel.Goals as goal

pub returns-in-Withdrawn-clause-told : goal.returns-in-Withdrawn-clause-told
returns-in-Withdrawn-clause-told g c = grown_told c.take-held.ensures c.note_end.ensures c.value_mut.ensures.value c.in-Withdrawn.ensures.told.gains c.cancel.ensures.sound

pub returns-in-Asked-clause-told : goal.returns-in-Asked-clause-told
returns-in-Asked-clause-told g c = grown_told c.take-held.ensures c.note.ensures c.value_mut.ensures.value c.in-Asked.ensures.told.tells c.cancel.ensures.sound
