use Rattle.std.proofs.Common.{◌≡◌, ◌++◌, map, take, drop}
use Rattle.executor_core.specs.Acts.{shut}
use Rattle.executor_core.proofs.search.shut_each.Given as goal

abbrev pub invariant-loop-q : goal.invariant-loop-q
invariant-loop-q l = l.all ≡ map shut (take l.q-index l.initial.all) ++ drop l.q-index l.initial.all
