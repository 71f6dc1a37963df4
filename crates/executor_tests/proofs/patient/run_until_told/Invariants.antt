use Rattle.count_lock.specs.Passes.{IsSamePass}
use Rattle.executor_tests.specs.Callers.{RunsOne}
use Rattle.executor_tests.proofs.patient.run_until_told.Given as goal

abbrev pub invariant-loop : goal.invariant-loop
invariant-loop g l = IsSamePass l.initial.pass l.pass × RunsOne l.executor.lock l.pass l.request
