-- A chunk as it is written.
use Rattle.std.specs.Prelude.{ℕ, false, List, [], length}
use Rattle.std.specs.Fmt.{digits}
use Rattle.http_frames.specs.Chunks.{line_text}

-- the size in lower hexadecimal digits without leading zeros, CRLF, the data, CRLF
abbrev pub chunk_of : List ℕ → List ℕ
chunk_of piece = line_text (digits 16 false (length piece)) (line_text piece [])
