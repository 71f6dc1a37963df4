use Rattle.count_lock.specs.Passes.{IsPassOf, IsResting}
use Rattle.count_lock.proofs.tests.many.Given as goal

abbrev pub invariant-loop-i : goal.invariant-loop-i
invariant-loop-i g l = IsPassOf l.lock l.pass × IsResting l.pass
