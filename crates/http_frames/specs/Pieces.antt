-- What taking the front of a piece does to a reader of a chunked body.
use Rattle.std.specs.Prelude.{◌≡◌, ℕ, ◌<◌, ◌≤◌, List, [], ◌++◌, length, take, IsTrue, ⊤}
use Rattle.http_frames.specs.declared.reader.Reader.{Reader}
use Rattle.http_frames.specs.declared.reader.Intake.{Intake}
use Rattle.http_frames.specs.declared.reader.Intake.TheVariants.{Took, Whole, Bad}
use Rattle.http_frames.specs.Chunks.{is_size_line, size_of, line_text, Body, NeverHasBody}
use Rattle.http_frames.specs.Reader.{IsReadAs, IsSound}

-- these octets were read
abbrev pub IsReadBy : Reader → List ℕ → Type 0
IsReadBy r bytes = IsReadAs r.stage r.pending r.body bytes

abbrev pub IsSoundReader : Reader → Type 0
IsSoundReader r = IsSound r.stage r.pending r.body

-- what a step says of a piece, between the reader before it and after it
abbrev pub ReadsPiece : Reader → List ℕ → Reader → Intake → Type 0
ReadsPiece old piece new (Took n) = (n ≤ length piece) × IsSoundReader new × ((bytes : List ℕ) → IsReadBy old bytes → IsReadBy new (bytes ++ take n piece))
ReadsPiece old piece new (Whole trailer n) = (n ≤ length piece) × ((bytes : List ℕ) → IsReadBy old bytes → Body (bytes ++ take n piece) new.body trailer [])
ReadsPiece old piece new Bad = (bytes : List ℕ) → IsReadBy old bytes → NeverHasBody (bytes ++ piece)

-- some octets were taken
abbrev pub IsProgress : Intake → Type 0
IsProgress (Took n) = 0 < n
IsProgress (Whole trailer n) = ⊤
IsProgress Bad = ⊤

-- all octets were taken
abbrev pub TookAll : List ℕ → Intake → Type 0
TookAll piece (Took n) = n ≡ length piece
TookAll piece (Whole trailer n) = ⊤
TookAll piece Bad = ⊤

-- the octets begin with the line and the data of a chunk
pub record IsWholeChunk (line octets piece : List ℕ) : Type 0 where
  pub sized : IsTrue (is_size_line line)
  pub size : size_of line ≡ length octets
  pub some : 0 < length octets
  pub rest : List ℕ
  pub text : piece ≡ line_text line (line_text octets rest)
