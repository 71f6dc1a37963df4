-- What came of a request that isn't whole, and what a piece does.
use Rattle.std.specs.Prelude.{◌≡◌, ◌≢◌, ℕ, ◌+◌, ◌-◌, ◌<◌, ◌≤◌, ◌⊎◌, false, List, [], ◌∷◌, ◌++◌, length, drop, ⊤}
use Rattle.http_heads.specs.declared.field.Head.{Head as RequestHead}
use Rattle.http_heads.specs.declared.Framing.TheVariants as framings
use Rattle.http_heads.specs.declared.front.TheConstants.{MAX_OCTETS}
use Rattle.http_heads.specs.Ending.{stops_line, IsFirstStop}
use Rattle.http_heads.specs.Heads.{IsHead, StartsWithHead, HasNoHead, NeverHasHead, StartsWell}
use Rattle.http_heads.specs.Framing.{framing_of}
use Rattle.http_frames.specs.declared.Phase.{Phase}
use Rattle.http_frames.specs.declared.Phase.TheVariants as phases
use Rattle.http_frames.specs.Progress.{IsFed}
use Rattle.http_frames.specs.Lengths.{IsFilledWith}
use Rattle.http_frames.specs.Chunks.{HasNoBody, NeverHasBody, Waits}
use Rattle.http_core.specs.declared.read.Part.{Part}
use Rattle.http_core.specs.declared.read.Part.TheVariants as parts
use Rattle.http_core.specs.declared.read.Opening.{Opening}
use Rattle.http_core.specs.declared.read.Opening.TheVariants.{Line, Head, Crowded, Read}
use Rattle.http_core.specs.declared.read.RequestRead.{RequestRead}
use Rattle.http_core.specs.declared.read.RequestRead.TheVariants.{More, Whole, Fault}
use Rattle.http_core.specs.Requests.{skip_pairs, IsBody, IsRequest, IsFault}

-- no head at the front ends within the first octets
abbrev pub NoHeadWithin : ℕ → List ℕ → Type 0
NoHeadWithin from bytes = (head : RequestHead) (len : ℕ) → StartsWithHead bytes head len → len ≤ from → ⊥

-- none of the first octets stops the first line
abbrev pub NoStopWithin : ℕ → List ℕ → Type 0
NoStopWithin from bytes = (k : ℕ) → k < from → k < length bytes → stops_line bytes k ≡ false

abbrev pub HasNoStop : List ℕ → Type 0
HasNoStop bytes = (k : ℕ) → k < length bytes → stops_line bytes k ≡ false

-- the first line stops, and may be that of a head
pub record HasStart (bytes : List ℕ) : Type 0 where
  pub at : ℕ
  pub stop : IsFirstStop bytes at
  pub well : StartsWell bytes

-- the decoder of the body takes the next piece
abbrev pub phase_of : Part → Phase
phase_of (parts.Line octets) = phases.Going
phase_of (parts.Head octets) = phases.Going
phase_of (parts.Crowded len) = phases.Going
phase_of (parts.Sized head lengths) = lengths.phase
phase_of (parts.Chunked head chunks) = chunks.phase

abbrev pub IsReadyRead : RequestRead → Type 0
IsReadyRead (More part) = phase_of part ≡ phases.Going
IsReadyRead (Whole request left) = ⊤
IsReadyRead (Fault code) = ⊤

abbrev pub IsReadyOpening : Opening → Type 0
IsReadyOpening Line = ⊤
IsReadyOpening Head = ⊤
IsReadyOpening Crowded = ⊤
IsReadyOpening (Read step) = IsReadyRead step

-- behind a head came these octets of its body, which isn't whole
abbrev pub HasPart : RequestHead → List ℕ → Part → Type 0
HasPart head behind (parts.Line octets) = ⊥
HasPart head behind (parts.Head octets) = ⊥
HasPart head behind (parts.Crowded len) = ⊥
HasPart head behind (parts.Sized h lengths) =
    (h ≡ head) × (framing_of head ≡ framings.Length lengths.size) × IsFilledWith lengths behind × (length behind < lengths.size)
HasPart head behind (parts.Chunked h chunks) =
    (h ≡ head) × (framing_of head ≡ framings.Chunked) × IsFed chunks behind × HasNoBody behind × Waits behind

-- a head at the front, and a part of its body
pub record HasBegun (bytes : List ℕ) (part : Part) : Type 0 where
  pub head : RequestHead
  pub front : List ℕ
  pub behind : List ℕ
  pub text : bytes ≡ front ++ behind
  pub is : IsHead front head
  pub has : HasPart head behind part

-- these octets came behind the last whole request
abbrev pub IsReading : Part → List ℕ → Type 0
IsReading (parts.Line octets) bytes = (skip_pairs bytes ≡ octets) × HasNoStop octets × (length octets < MAX_OCTETS)
IsReading (parts.Head octets) bytes = (skip_pairs bytes ≡ octets) × HasNoHead octets × (length octets < MAX_OCTETS) × HasStart octets
IsReading (parts.Crowded len) bytes =
    (length (skip_pairs bytes) ≡ len) × NeverHasHead (skip_pairs bytes) × (len < MAX_OCTETS) × HasStart (skip_pairs bytes)
IsReading (parts.Sized head lengths) bytes = HasBegun (skip_pairs bytes) (parts.Sized head lengths)
IsReading (parts.Chunked head chunks) bytes = HasBegun (skip_pairs bytes) (parts.Chunked head chunks)

-- what a piece does behind these octets
abbrev pub ReadsOn : List ℕ → List ℕ → RequestRead → Type 0
ReadsOn bytes piece (More part) = IsReading part (bytes ++ piece)
ReadsOn bytes piece (Whole request left) = (left ≤ length piece) × IsRequest (skip_pairs (bytes ++ piece)) request (drop (length piece - left) piece)
ReadsOn bytes piece (Fault code) = (more : List ℕ) → IsFault (skip_pairs ((bytes ++ piece) ++ more)) code

-- the same behind a head and these octets of its body
abbrev pub BodyReadsOn : RequestHead → List ℕ → List ℕ → RequestRead → Type 0
BodyReadsOn head before piece (More part) = HasPart head (before ++ piece) part
BodyReadsOn head before piece (Whole request left) =
    (request.head ≡ head) × (left ≤ length piece) × IsBody (framing_of head) (before ++ piece) request.body (drop (length piece - left) piece)
BodyReadsOn head before piece (Fault code) =
    (framing_of head ≡ framings.Fault code) ⊎ ((framing_of head ≡ framings.Chunked) × NeverHasBody (before ++ piece) × (code ≡ 400))

-- what reading a head says of the octets, of which no head ends within the first
abbrev pub Opens : ℕ → List ℕ → Opening → Type 0
Opens from bytes Line = ⊥
Opens from bytes Head = HasNoHead bytes × (length bytes < MAX_OCTETS) × StartsWell bytes
Opens from bytes Crowded = NeverHasHead bytes × (length bytes < MAX_OCTETS) × StartsWell bytes
Opens from bytes (Read (More part)) = HasBegun bytes part
Opens from bytes (Read (Whole request left)) = (left + from < length bytes) × IsRequest bytes request (drop (length bytes - left) bytes)
Opens from bytes (Read (Fault code)) = 0 < length bytes → (more : List ℕ) → IsFault (bytes ++ more) code

-- the same of octets that may still be less than a line; what follows them is no part of a CRLF pair before them
abbrev pub Begins : ℕ → List ℕ → Opening → Type 0
Begins from bytes Line = HasNoStop bytes × (length bytes < MAX_OCTETS)
Begins from bytes Head = HasNoHead bytes × (length bytes < MAX_OCTETS) × HasStart bytes
Begins from bytes Crowded = NeverHasHead bytes × (length bytes < MAX_OCTETS) × HasStart bytes
Begins from bytes (Read (More part)) = HasBegun bytes part
Begins from bytes (Read (Whole request left)) = (left + from < length bytes) × IsRequest bytes request (drop (length bytes - left) bytes)
Begins from bytes (Read (Fault code)) = (bytes ≢ []) × (bytes ≢ 13 ∷ []) × ((more : List ℕ) → IsFault (bytes ++ more) code)

-- octets of the piece were taken
abbrev pub TakesSome : List ℕ → RequestRead → Type 0
TakesSome piece (More part) = ⊤
TakesSome piece (Whole request left) = left < length piece
TakesSome piece (Fault code) = ⊤
