use Rattle.std.proofs.Common.{◌≡◌, ◌≤◌, ◌-◌, ℕ, List, [], ◌++◌, length, take}
use Rattle.http_frames.specs.declared.reader.Stage.TheVariants.{Line}
use Rattle.http_frames.specs.Pieces.{IsSoundReader, IsReadBy}
use Rattle.http_frames.proofs.reader.Reader.take_chunks.Given as goal

abbrev pub invariant-loop-count : goal.invariant-loop-count
invariant-loop-count l = record {
  inside : l.at ≤ length l.piece;
  sound : IsSoundReader l.self;
  stage : l.self.stage ≡ Line;
  bare : l.self.pending ≡ [];
  same : l.at ≡ 0 → l.self ≡ l.fn.self;
  read : (bytes : List ℕ) → IsReadBy l.fn.self bytes → IsReadBy l.self (bytes ++ take l.at l.piece);
}

abbrev pub decreases-loop-count : goal.decreases-loop-count
decreases-loop-count l = length l.piece - l.at
