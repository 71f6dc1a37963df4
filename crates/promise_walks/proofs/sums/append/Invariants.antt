use Rattle.std.proofs.Common.{◌≡◌, ◌++◌, ◌≤◌, length, take}
use Rattle.promise_walks.proofs.sums.append.Given as goal

abbrev pub invariant-adding : goal.invariant-adding
invariant-adding l = record {
  words : l.words ≡ l.fn.words ++ take l.word-index l.source;
  few : length l.words ≤ 16;
}
