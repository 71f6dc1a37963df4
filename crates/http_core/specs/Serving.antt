-- What serving a piece does.
use Rattle.std.specs.Prelude.{◌≡◌, ℕ, Bool, false, ◌==◌, length, List, ◌++◌, Option, IfSome, Result, Ok, Err, ⊤}
use Rattle.kj_base.specs.declared.memory.NoMemory.{NoMemory}
use Rattle.http_frames.specs.declared.Phase.TheVariants as phases
use Rattle.http_core.specs.declared.message.Request.{Request}
use Rattle.http_core.specs.declared.message.Answer.{Answer}
use Rattle.http_core.specs.declared.message.End.{End}
use Rattle.http_core.specs.declared.read.Part.{Part}
use Rattle.http_core.specs.declared.read.Part.TheVariants as parts
use Rattle.http_core.specs.declared.connection.AfterPiece.{AfterPiece}
use Rattle.http_core.specs.declared.connection.AfterPiece.TheVariants.{More, Settled}
use Rattle.http_core.specs.Requests.{Along, Requests, replies, end_text}
use Rattle.http_core.specs.Reading.{phase_of, IsReading}

abbrev pub IsReadyAfter : AfterPiece → Type 0
IsReadyAfter (More part) = phase_of part ≡ phases.Going
IsReadyAfter (Settled end) = ⊤

-- the requests that were answered, and what of the octets is left behind them
pub record Answered (told : Option (Request → Answer)) (bytes before after : List ℕ) : Type 0 where
  pub requests : List Request
  pub rest : List ℕ
  pub along : Along requests bytes rest
  pub output : IfSome told (λ f. after ≡ before ++ replies f requests)

-- whatever follows the octets, these are all requests, and they end so
pub record AnsweredAll (told : Option (Request → Answer)) (end : End) (bytes before after : List ℕ) : Type 0 where
  pub requests : List Request
  pub all : (more : List ℕ) → Requests requests end (bytes ++ more)
  pub output : IfSome told (λ f. after ≡ before ++ replies f requests ++ end_text end)

-- the octets that came behind the last request before it, with a piece, and the output before and after it
abbrev pub Serves : Option (Request → Answer) → List ℕ → List ℕ → List ℕ → Result AfterPiece NoMemory → Type 0
Serves told bytes before after (Ok (More part)) = (is : Answered told bytes before after) × IsReading part is.rest
Serves told bytes before after (Ok (Settled end)) = AnsweredAll told end bytes before after
Serves told bytes before after (Err error) = Answered told bytes before after

-- nothing of a request came but CRLF pairs before it
abbrev pub is_idle : Part → Bool
is_idle (parts.Line octets) = length octets == 0
is_idle (parts.Head octets) = false
is_idle (parts.Crowded len) = false
is_idle (parts.Sized head lengths) = false
is_idle (parts.Chunked head chunks) = false

-- more may have come behind what was there
abbrev pub Grows : List ℕ → List ℕ → Type 0
Grows before after = (more : List ℕ) × (after ≡ before ++ more)
