use Rattle.std.proofs.Common.{◌≡◌, ◌+◌, ◌≤◌, drop}
use Rattle.promise_apply.specs.Uses.{uses_shown}
use Rattle.promise_apply.specs.Applying.{count_new}
use Rattle.promise_apply.proofs.refusing.news.Given as goal

abbrev pub invariant-loop-used : goal.invariant-loop-used
invariant-loop-used l = record {
  count : l.count + count_new (uses_shown (drop l.used-index l.uses)) ≡ count_new (uses_shown l.uses);
  few : l.count ≤ l.used-index;
}
