use Rattle.std.proofs.Common.{◌≤◌, ◌-◌, ℕ, List, ◌++◌, length, take}
use Rattle.http_frames.specs.Pieces.{IsSoundReader, IsReadBy}
use Rattle.http_frames.proofs.reader.Reader.read.Given as goal

abbrev pub invariant-loop-at : goal.invariant-loop-at
invariant-loop-at l = record {
  inside : l.at ≤ length l.piece;
  sound : IsSoundReader l.self;
  read : (bytes : List ℕ) → IsReadBy l.fn.self bytes → IsReadBy l.self (bytes ++ take l.at l.piece);
}

abbrev pub decreases-loop-at : goal.decreases-loop-at
decreases-loop-at l = length l.piece - l.at
