use Rattle.count_lock.specs.Passes.{IsSamePass}
use Rattle.executor_tests.specs.Callers.{HasOne}
use Rattle.executor_tests.proofs.watcher.watch.Given as goal

abbrev pub invariant-loop : goal.invariant-loop
invariant-loop g l = IsSamePass l.initial.pass l.pass × HasOne l.executor.lock l.pass l.ticket
