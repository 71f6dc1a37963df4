use Rattle.xthread.proofs.Marks.{ends_none}
use Rattle.xthread.proofs.executor.Executor.note.Goals as goal

pub release-requires-clause-plain : goal.release-requires-clause-plain
release-requires-clause-plain g c = λ n h. ends_none _ _ c.args.entry c.requires.plain n h
