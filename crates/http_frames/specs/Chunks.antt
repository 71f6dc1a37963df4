-- A chunked body (RFC 9112, section 7.1), with limits of this project's own.
use Rattle.std.specs.Prelude.{◌≡◌, ◌≢◌, ℕ, ◌+◌, ◌-◌, ◌<◌, ◌≤◌, ◌⊎◌, Bool, true, ◌&&◌, List, [], ◌∷◌, ◌++◌, length, take, drop, ◌==◌, nat_lt, nat_le, IsTrue}
use Rattle.std.specs.List.{list_all, prefix_len}
use Rattle.std.specs.Char.{is_ascii_hexdigit}
use Rattle.std.specs.Str.Parse.{digits_value}
use Rattle.httparse.specs.Ascii.{semicolon}
use Rattle.httparse.specs.Grammar.{is_value_byte, skip_ows}
use Rattle.http_heads.specs.declared.field.Field.{Field}
use Rattle.http_heads.specs.declared.front.TheConstants.{MAX_BODY, MAX_OCTETS}
use Rattle.http_heads.specs.Section.{StartsWithSection, HasNoSection}
use Rattle.http_frames.specs.declared.line.TheConstants.{MAX_LINE}

-- how many hexadecimal digits the line begins with
abbrev pub digit_count : List ℕ → ℕ
digit_count line = prefix_len is_ascii_hexdigit line

-- nothing, or a semicolon and text
abbrev pub is_extension : List ℕ → Bool
is_extension [] = true
is_extension (b ∷ bs) = (b == semicolon) && list_all is_value_byte bs

-- 1*16HEXDIG *( SP / HTAB ) [ ";" text ], at most 4,096 octets with its CRLF
abbrev pub is_size_line : List ℕ → Bool
is_size_line line =
    (nat_lt 0 (digit_count line) && nat_le (digit_count line) 16)
    && (nat_le (length line) MAX_LINE && is_extension (skip_ows (drop (digit_count line) line)))

-- the number that the line begins with
abbrev pub size_of : List ℕ → ℕ
size_of line = digits_value 16 (take (digit_count line) line)

-- a line, CRLF, and what follows
abbrev pub line_text : List ℕ → List ℕ → List ℕ
line_text line rest = line ++ 13 ∷ 10 ∷ rest

-- a line and the data that it announces
pub record Chunk : Type 0 where
  pub line : List ℕ
  pub data_bytes : List ℕ

-- a chunk, and what follows
abbrev pub chunk_text : Chunk → List ℕ → List ℕ
chunk_text c rest = line_text c.line (line_text c.data_bytes rest)

-- the line has the form, and announces the data, of which there are some
pub record IsChunk (c : Chunk) : Type 0 where
  pub line : IsTrue (is_size_line c.line)
  pub size : size_of c.line ≡ length c.data_bytes
  pub some : 0 < length c.data_bytes

-- the line of the last chunk: its digits are zeros alone
pub record IsLast (line : List ℕ) : Type 0 where
  pub sized : IsTrue (is_size_line line)
  pub zero : size_of line ≡ 0

-- the octets begin with a trailer of these fields and its empty line, and rest follows it
abbrev pub IsTrailer : List ℕ → List Field → List ℕ → Type 0
IsTrailer bytes trailer rest = (len : ℕ) × StartsWithSection bytes trailer len rest

-- A chunk before a chunked text, or the last chunk with its trailer. rest is what follows the text.
abbrev pub Chunked : List Chunk → List ℕ → List ℕ → List Field → List ℕ → Type 0
Chunked [] bytes body trailer rest =
    (line : List ℕ) × (after : List ℕ) × IsLast line × (bytes ≡ line_text line after) × (body ≡ []) × IsTrailer after trailer rest
Chunked (c ∷ cs) bytes body trailer rest =
    (middle : List ℕ) × (others : List ℕ) × IsChunk c × (bytes ≡ chunk_text c middle) × (body ≡ c.data_bytes ++ others) × Chunked cs middle others trailer rest

-- the octets begin with a chunked body and its trailer, and rest follows it
pub record Body (bytes body : List ℕ) (trailer : List Field) (rest : List ℕ) : Type 0 where
  pub chunks : List Chunk
  pub text : Chunked chunks bytes body trailer rest
  pub small : length body ≤ MAX_BODY

-- no prefix is a body
abbrev pub HasNoBody : List ℕ → Type 0
HasNoBody bytes = (body : List ℕ) (trailer : List Field) (rest : List ℕ) → Body bytes body trailer rest → ⊥

-- no octets can follow that make a prefix a body
abbrev pub NeverHasBody : List ℕ → Type 0
NeverHasBody bytes = (more : List ℕ) → HasNoBody (bytes ++ more)

-- no CR among the octets
abbrev pub NoCr : List ℕ → Type 0
NoCr [] = Unit {0}
NoCr (b ∷ bs) = (b ≢ 13) × NoCr bs

-- chunks one after another, and what follows
abbrev pub texts : List Chunk → List ℕ → List ℕ
texts [] rest = rest
texts (c ∷ cs) rest = chunk_text c (texts cs rest)

-- their data
abbrev pub contents : List Chunk → List ℕ
contents [] = []
contents (c ∷ cs) = c.data_bytes ++ contents cs

abbrev pub AreChunks : List Chunk → Type 0
AreChunks [] = Unit {0}
AreChunks (c ∷ cs) = IsChunk c × AreChunks cs

-- no CRLF among the octets, which may be the beginning of a line
pub record AwaitsLine (tail : List ℕ) : Type 0 where
  pub no_end : (line rest : List ℕ) → tail ≡ line_text line rest → ⊥
  pub short : length tail ≤ MAX_LINE + 2

-- the line of a chunk whose data fits the room, and less than the data and a CRLF
pub record AwaitsData (room : ℕ) (tail : List ℕ) : Type 0 where
  pub line : List ℕ
  pub rest : List ℕ
  pub sized : IsTrue (is_size_line line)
  pub text : tail ≡ line_text line rest
  pub some : 0 < size_of line
  pub fits : size_of line ≤ room
  pub short : length rest < size_of line + 2

-- the line of the last chunk, and less than the octets of a trailer, of which no prefix is one
pub record AwaitsTrailer (tail : List ℕ) : Type 0 where
  pub line : List ℕ
  pub rest : List ℕ
  pub last : IsLast line
  pub text : tail ≡ line_text line rest
  pub none : HasNoSection rest
  pub short : length rest < MAX_OCTETS

-- chunks, and then a beginning of a line, of a chunk or of the last chunk that may still become one
pub record Waits (bytes : List ℕ) : Type 0 where
  pub chunks : List Chunk
  pub are : AreChunks chunks
  pub small : length (contents chunks) ≤ MAX_BODY
  pub tail : List ℕ
  pub text : bytes ≡ texts chunks tail
  pub awaits : AwaitsLine tail ⊎ (AwaitsData (MAX_BODY - length (contents chunks)) tail ⊎ AwaitsTrailer tail)
