-- What a connection stands for.
use Rattle.std.specs.Prelude.{◌≡◌, ℕ, List, [], ◌++◌, Option, IfSome, Result, Ok, Err, ⊤}
use Rattle.kj_base.specs.declared.memory.NoMemory.{NoMemory}
use Rattle.http_core.specs.declared.message.Request.{Request}
use Rattle.http_core.specs.declared.message.Answer.{Answer}
use Rattle.http_core.specs.declared.read.Part.{Part}
use Rattle.http_core.specs.declared.connection.Fed.{Fed}
use Rattle.http_core.specs.declared.connection.Fed.TheVariants as feds
use Rattle.http_core.specs.declared.connection.ConnectionState.{ConnectionState}
use Rattle.http_core.specs.declared.connection.ConnectionState.TheVariants.{Going, Settled, Ended, Drained, Broken}
use Rattle.http_core.specs.declared.connection.Connection.{Connection}
use Rattle.http_core.specs.Requests.{skip_pairs, Along, Requests, replies, end_text, Awaits}
use Rattle.http_core.specs.Reading.{IsReading}

-- how it stands, what is ready, and its service
abbrev pub state_of : {S : Type 0} → Connection S → ConnectionState
state_of c = c.state

abbrev pub output_of : {S : Type 0} → Connection S → List ℕ
output_of c = c.output

abbrev pub service_of : {S : Type 0} → Connection S → S
service_of c = c.service

-- what feeding says, and what ending says, by how the connection then stands
abbrev pub fed_of : ConnectionState → Result Fed NoMemory
fed_of Going = Ok feds.More
fed_of (Settled end) = Ok feds.Closed
fed_of (Ended end) = Ok feds.Closed
fed_of Drained = Ok feds.Closed
fed_of Broken = Err (record {})

abbrev pub ended_of : ConnectionState → Result (Unit {0}) NoMemory
ended_of Going = Ok tt
ended_of (Settled end) = Ok tt
ended_of (Ended end) = Ok tt
ended_of Drained = Ok tt
ended_of Broken = Err (record {})

-- Requests behind which the connection takes more: what is left neither is a request nor makes the connection close.
pub record IsGoing (part : Part) (requests : List Request) (fed : List ℕ) : Type 0 where
  pub rest : List ℕ
  pub along : Along requests fed rest
  pub awaits : Awaits (skip_pairs rest)
  pub reading : IsReading part rest

-- after the answers to these requests the connection stands so, with these octets
abbrev pub Stands : ConnectionState → Part → List Request → List ℕ → Type 0
Stands Going part requests fed = IsGoing part requests fed
Stands (Settled end) part requests fed = (more : List ℕ) → Requests requests end (fed ++ more)
Stands (Ended end) part requests fed = Requests requests end fed
Stands Drained part requests fed = (rest : List ℕ) × Along requests fed rest
Stands Broken part requests fed = (rest : List ℕ) × Along requests fed rest

-- the text of the fault, if the requests end with one
abbrev pub last_text : ConnectionState → List ℕ
last_text Going = []
last_text (Settled end) = end_text end
last_text (Ended end) = end_text end
last_text Drained = []
last_text Broken = []

-- The connection was fed these octets, in whatever pieces, and these were taken from its output: taken and ready are the texts
-- of the requests that were answered, where the service tells its answers, and then the text of the fault.
pub record WasFed {S : Type 0} (told : Option (Request → Answer)) (c : Connection S) (fed taken : List ℕ) : Type 0 where
  pub requests : List Request
  pub stands : Stands c.state c.part requests fed
  pub output : IfSome told (λ f. taken ++ c.output ≡ replies f requests ++ last_text c.state)

-- octets that come after the end are dropped
abbrev pub fed_with : ConnectionState → List ℕ → List ℕ → List ℕ
fed_with Going fed piece = fed ++ piece
fed_with (Settled end) fed piece = fed ++ piece
fed_with (Ended end) fed piece = fed
fed_with Drained fed piece = fed ++ piece
fed_with Broken fed piece = fed ++ piece

-- no further request is answered
abbrev pub drained_of : ConnectionState → ConnectionState
drained_of Going = Drained
drained_of (Settled end) = Settled end
drained_of (Ended end) = Ended end
drained_of Drained = Drained
drained_of Broken = Broken

-- where it took octets, a piece leaves the connection so: the octets alone can't end it
abbrev pub FeedLeaves : ConnectionState → Type 0
FeedLeaves Going = ⊤
FeedLeaves (Settled end) = ⊤
FeedLeaves (Ended end) = ⊥
FeedLeaves Drained = ⊥
FeedLeaves Broken = ⊤

-- where it took octets, their end leaves it so
abbrev pub EndLeaves : ConnectionState → Type 0
EndLeaves Going = ⊥
EndLeaves (Settled end) = ⊥
EndLeaves (Ended end) = ⊤
EndLeaves Drained = ⊥
EndLeaves Broken = ⊤
