use Rattle.std.proofs.Common.{◌≡◌, ◌+◌, ◌≤◌, drop}
use Rattle.promise_apply.specs.Uses.{uses_shown}
use Rattle.promise_apply.specs.Applying.{count_sources}
use Rattle.promise_apply.proofs.refusing.taken_sources.Given as goal

abbrev pub invariant-loop-used : goal.invariant-loop-used
invariant-loop-used l = record {
  count : l.count + count_sources (uses_shown (drop l.used-index l.uses)) ≡ count_sources (uses_shown l.uses);
  few : l.count ≤ l.used-index;
}
