use Rattle.std.specs.Prelude.{slice_get}
use Rattle.count_lock.specs.Passes.{constant, seen}
use Rattle.executor_core.specs.Histories.{board_of, waits}
use Rattle.xthread.proofs.Marks.{Marking}
use Rattle.xthread.proofs.executor.Executor.note_close.Given as goal

abbrev pub invariant-loop-number : goal.invariant-loop-number
invariant-loop-number g l = Marking (λ n. waits (slice_get (board_of (constant l.fn.pass) (seen l.fn.pass)).requests n)) l.initial.pass l.pass l.number
