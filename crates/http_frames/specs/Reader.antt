-- What a reader of a chunked body has of the octets so far.
use Rattle.std.specs.Prelude.{◌≡◌, ℕ, ◌+◌, ◌<◌, ◌≤◌, List, [], ◌∷◌, ◌++◌, length, IsTrue, ⊤}
use Rattle.http_heads.specs.declared.front.TheConstants.{MAX_BODY, MAX_OCTETS}
use Rattle.http_heads.specs.Section.{HasNoSection, NeverHasSection}
use Rattle.http_frames.specs.declared.line.TheConstants.{MAX_LINE}
use Rattle.http_frames.specs.declared.reader.Stage.{Stage}
use Rattle.http_frames.specs.declared.reader.Stage.TheVariants as stages
use Rattle.http_frames.specs.Chunks.{is_size_line, size_of, line_text, Chunk, IsLast, texts, contents, AreChunks, NoCr}

-- the line of a chunk, so much of its data, and what came behind
pub record HasData (tail got behind : List ℕ) (left : ℕ) : Type 0 where
  pub line : List ℕ
  pub sized : IsTrue (is_size_line line)
  pub some : 0 < size_of line
  pub size : size_of line ≡ length got + left
  pub text : tail ≡ line_text line (got ++ behind)

-- the line of the last chunk, and what came of the trailer
pub record HasLast (tail trailer : List ℕ) : Type 0 where
  pub line : List ℕ
  pub last : IsLast line
  pub text : tail ≡ line_text line trailer

-- what is kept beside the whole chunks: got is what the body has of a chunk that is not whole
abbrev pub Keeps : Stage → List ℕ → List ℕ → List ℕ → Type 0
Keeps stages.Line pending got tail = (tail ≡ pending) × (got ≡ [])
Keeps stages.LineEnd pending got tail = (tail ≡ pending ++ 13 ∷ []) × (got ≡ [])
Keeps (stages.Data left) pending got tail = HasData tail got [] left
Keeps stages.DataCr pending got tail = HasData tail got [] 0
Keeps stages.DataLf pending got tail = HasData tail got (13 ∷ []) 0
Keeps stages.Trailer pending got tail = HasLast tail pending × (got ≡ [])
Keeps stages.Crowded pending got tail = HasLast tail pending × (got ≡ [])

-- these octets were read: chunks, and what is kept of the next
pub record IsReadAs (stage : Stage) (pending body bytes : List ℕ) : Type 0 where
  pub chunks : List Chunk
  pub are : AreChunks chunks
  pub got : List ℕ
  pub tail : List ℕ
  pub text : bytes ≡ texts chunks tail
  pub body_is : body ≡ contents chunks ++ got
  pub keeps : Keeps stage pending got tail

-- what holds of the kept octets by themselves
abbrev pub IsKept : Stage → List ℕ → List ℕ → Type 0
IsKept stages.Line pending body = NoCr pending × (length pending ≤ MAX_LINE)
IsKept stages.LineEnd pending body = NoCr pending × (length pending ≤ MAX_LINE)
IsKept (stages.Data left) pending body = (0 < left) × (length body + left ≤ MAX_BODY)
IsKept stages.DataCr pending body = ⊤
IsKept stages.DataLf pending body = ⊤
IsKept stages.Trailer pending body = HasNoSection pending × (length pending < MAX_OCTETS)
IsKept stages.Crowded pending body = NeverHasSection pending × (length pending < MAX_OCTETS)

pub record IsSound (stage : Stage) (pending body : List ℕ) : Type 0 where
  pub small : length body ≤ MAX_BODY
  pub kept : IsKept stage pending body
