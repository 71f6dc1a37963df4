-- What a connection over a stream stands for.
use Rattle.std.specs.Prelude.{◌≡◌, ℕ, Bool, true, ◌≤◌, ◌<◌, List, [], ◌++◌, length, take, Option, IfSome}
use Rattle.http_core.specs.declared.message.Request.{Request}
use Rattle.http_core.specs.declared.message.Answer.{Answer}
use Rattle.http_core.specs.declared.read.Part.{Part}
use Rattle.http_core.specs.declared.read.RequestRead.{RequestRead}
use Rattle.http_core.specs.declared.read.RequestRead.TheVariants.{More, Whole, Fault}
use Rattle.http_core.specs.Requests.{skip_pairs, IsRequest, IsFault, Along, replies}
use Rattle.http_core.specs.Reading.{IsReading}
use Rattle.kj_io.specs.Streams.{StreamOctets}
use Rattle.http_stream.specs.declared.stage.Stage.{Stage}
use Rattle.http_stream.specs.declared.stage.Stage.TheVariants.{Reading}
use Rattle.http_stream.specs.declared.connection.StreamConnection.{StreamConnection}
use Rattle.http_stream.specs.Stages.{behind, StageStands, Made, Leaves}

-- the stream gave the octets that were read, and took the front of the texts
pub record HasPassed (stage : Stage) (octets made : List ℕ) (sent : ℕ) (o : StreamOctets) : Type 0 where
  pub given : o.given ≡ octets
  pub written : o.written ≡ take sent made
  pub left : Leaves stage o.left

-- These requests were answered; octets were read and texts made for them, where the service tells its answers; the stream gave
-- these octets and took the front of the texts, where it tells its octets; and where a call on it failed, its faults rose.
pub record StandsSo (told : Option (Request → Answer)) (stream : Option StreamOctets) (faults : ℕ) (stage : Stage) (part : Part) (request : Request) (octets made : List ℕ)
    (sent answered : ℕ) (abandoned : Bool) : Type 0 where
  pub requests : List Request
  pub stands : StageStands stage part request requests octets
  pub texts : IfSome told (λ f. Made stage f requests made)
  pub count : answered ≡ length requests
  pub passed : IfSome stream (HasPassed stage octets made sent)
  pub fault : abandoned ≡ true → 0 < faults

abbrev pub Stands : {C : Type 0} → (C → Option StreamOctets) → (C → ℕ) → Option (Request → Answer) → StreamConnection C → Type 0
Stands stream_told stream_faults told c =
    StandsSo told (stream_told c.stream) (stream_faults c.stream) c.stage c.part c.request c.octets c.made c.sent c.answered c.abandoned

-- the same between two answers, where rest stands behind the last request
pub record IsBetween (told : Option (Request → Answer)) (stream : Option StreamOctets) (faults : ℕ) (octets rest made : List ℕ) (sent answered : ℕ) (abandoned : Bool) : Type 0 where
  pub requests : List Request
  pub along : Along requests octets rest
  pub texts : IfSome told (λ f. made ≡ replies f requests)
  pub count : answered ≡ length requests
  pub passed : IfSome stream (HasPassed Reading octets made sent)
  pub fault : abandoned ≡ true → 0 < faults

abbrev pub StandsBetween : {C : Type 0} → (C → Option StreamOctets) → (C → ℕ) → Option (Request → Answer) → List ℕ → StreamConnection C → Type 0
StandsBetween stream_told stream_faults told rest c =
    IsBetween told (stream_told c.stream) (stream_faults c.stream) c.octets rest c.made c.sent c.answered c.abandoned

-- what came of the octets behind the last request
abbrev pub ReadsAt : List ℕ → List ℕ → RequestRead → Type 0
ReadsAt octets rest (More part) = IsReading part rest
ReadsAt octets rest (Whole request left) = (left ≤ length octets) × IsRequest (skip_pairs rest) request (behind octets left)
ReadsAt octets rest (Fault code) = (more : List ℕ) → IsFault (skip_pairs (rest ++ more)) code

-- the stream has nothing left, where it tells
abbrev pub IsAtEnd : Option StreamOctets → Type 0
IsAtEnd stream = IfSome stream (λ o. o.left ≡ [])
