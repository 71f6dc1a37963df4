-- What a read and a write do to the octets of a stream, and which of their answers have a cause.
use Rattle.std.specs.Prelude.{◌≡◌, ℕ, ◌+◌, ◌<◌, ◌≤◌, List, [], ◌++◌, length, take, drop, Option, Some, None, ⊤}
use Rattle.kj_io.specs.Causes.{Rose}
use Rattle.kj_io.specs.declared.stream.Got.{Got}
use Rattle.kj_io.specs.declared.stream.Got.TheVariants as got
use Rattle.kj_io.specs.declared.stream.Put.{Put}
use Rattle.kj_io.specs.declared.stream.Put.TheVariants as put

-- the octets that reads gave, those they didn't give yet, and those that writes took
pub record StreamOctets : Type 0 where
  pub given : List ℕ
  pub left : List ℕ
  pub written : List ℕ

-- the first n octets left stand at the front of the buffer, and are given
pub record Gives (n : ℕ) (buf : List ℕ) (old new : StreamOctets) : Type 0 where
  pub front : take n buf ≡ take n old.left
  pub enough : n ≤ length old.left
  pub given : new.given ≡ old.given ++ take n old.left
  pub left : new.left ≡ drop n old.left
  pub written : new.written ≡ old.written

-- what a read does, with the buffer after it
abbrev pub Reads : Option StreamOctets → Option StreamOctets → Got → List ℕ → Type 0
Reads None new answer buf = new ≡ None
Reads (Some old) None answer buf = ⊥
Reads (Some old) (Some new) (got.Bytes n) buf = Gives n buf old new
Reads (Some old) (Some new) got.End buf = (new ≡ old) × (old.left ≡ [])
Reads (Some old) (Some new) got.NotYet buf = new ≡ old
Reads (Some old) (Some new) got.Failed buf = new ≡ old

-- the first n octets of the piece were taken
pub record Takes (n : ℕ) (piece : List ℕ) (old new : StreamOctets) : Type 0 where
  pub given : new.given ≡ old.given
  pub left : new.left ≡ old.left
  pub written : new.written ≡ old.written ++ take n piece

-- what a write of a piece does
abbrev pub Writes : Option StreamOctets → Option StreamOctets → Put → List ℕ → Type 0
Writes None new answer piece = new ≡ None
Writes (Some old) None answer piece = ⊥
Writes (Some old) (Some new) (put.Bytes n) piece = Takes n piece old new
Writes (Some old) (Some new) put.NotYet piece = new ≡ old
Writes (Some old) (Some new) put.Failed piece = new ≡ old

-- at most as many octets as there is room for, and some where there is room
abbrev pub IsReadWithin : Got → ℕ → Type 0
IsReadWithin (got.Bytes n) room = (n ≤ room) × (0 < room → 0 < n)
IsReadWithin got.End room = ⊤
IsReadWithin got.NotYet room = ⊤
IsReadWithin got.Failed room = ⊤

abbrev pub IsWriteWithin : Put → ℕ → Type 0
IsWriteWithin (put.Bytes n) room = (n ≤ room) × (0 < room → 0 < n)
IsWriteWithin put.NotYet room = ⊤
IsWriteWithin put.Failed room = ⊤

-- the counts never fall, and one rose where a read failed or paused
pub record HasReadCause (faults later_faults pauses later_pauses : ℕ) (answer : Got) : Type 0 where
  pub faults_later : faults ≤ later_faults
  pub pauses_later : pauses ≤ later_pauses
  pub failed : answer ≡ got.Failed → Rose faults later_faults
  pub not_yet : answer ≡ got.NotYet → Rose pauses later_pauses

-- the counts never fall, and one rose where a write failed or paused
pub record HasWriteCause (faults later_faults pauses later_pauses : ℕ) (answer : Put) : Type 0 where
  pub faults_later : faults ≤ later_faults
  pub pauses_later : pauses ≤ later_pauses
  pub failed : answer ≡ put.Failed → Rose faults later_faults
  pub not_yet : answer ≡ put.NotYet → Rose pauses later_pauses

-- how many octets a read gave
abbrev pub given : Got → ℕ
given (got.Bytes n) = n
given got.End = 0
given got.NotYet = 0
given got.Failed = 0

-- the octets that were there stay, and those that the read gave stand behind them
pub record ReadsBehind (before after : Option StreamOctets) (old new : List ℕ) (answer : Got) : Type 0 where
  pub piece : List ℕ
  pub stays : new ≡ old ++ piece
  pub count : length piece ≡ given answer
  pub reads : Reads before after answer piece

-- a read at a place of octets in memory that neither pauses nor fails, and the place after it
abbrev pub GivesFrom : List ℕ → ℕ → ℕ → Got → List ℕ → Type 0
GivesFrom octets at later (got.Bytes n) buf = (take n buf ≡ take n (drop at octets)) × (at + n ≤ length octets) × (later ≡ at + n)
GivesFrom octets at later got.End buf = (later ≡ at) × (drop at octets ≡ [])
GivesFrom octets at later got.NotYet buf = ⊥
GivesFrom octets at later got.Failed buf = ⊥
