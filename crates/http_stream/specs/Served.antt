-- What the octets written are, where a connection over a stream has ended.
use Rattle.std.specs.Prelude.{◌≡◌, ℕ, ◌<◌, Bool, true, false, ◌⊎◌, List, ◌∷◌, ◌++◌, length, take, Option, IfSome}
use Rattle.http_core.specs.declared.message.Request.{Request}
use Rattle.http_core.specs.declared.message.Answer.{Answer}
use Rattle.http_core.specs.declared.message.End.{End}
use Rattle.http_core.specs.Text.{text}
use Rattle.http_core.specs.Requests.{Along, Requests, replies, end_text}
use Rattle.http_core.specs.Replies.{IsReplies}
use Rattle.kj_io.specs.Streams.{StreamOctets}
use Rattle.http_stream.specs.declared.served.Finished.{Finished}
use Rattle.http_stream.specs.declared.connection.StreamConnection.{StreamConnection}
use Rattle.http_stream.specs.Stages.{DrainedTexts, is_drained, is_closing}

-- No drain came: the octets written are the replies to the octets read, and to all that the stream gave and still has.
pub record WithoutDrain (f : Request → Answer) (stream : Option StreamOctets) (read written : List ℕ) (answered : ℕ) : Type 0 where
  pub replies : IsReplies f read written
  pub count : answered ≡ length replies.requests
  pub all : IfSome stream (λ o. IsReplies f (o.given ++ o.left) written)

-- A drain ended it: the octets written are the texts of the requests that were answered, which are the first ones; the last text
-- says that the connection closes where the drain had begun before it was made.
pub record WithDrain (f : Request → Answer) (closes : Bool) (read written : List ℕ) (answered : ℕ) : Type 0 where
  pub requests : List Request
  pub rest : List ℕ
  pub along : Along requests read rest
  pub count : answered ≡ length requests
  pub texts : DrainedTexts closes f requests written

-- a front of the texts; of those with a last one that closes where this is so
abbrev pub FrontOf : (Request → Answer) → Bool → List Request → End → List ℕ → Type 0
FrontOf f false requests end written = (more : List ℕ) × (written ++ more ≡ replies f requests ++ end_text end)
FrontOf f true requests end written =
    (before : List Request) × (last : Request) × (later : List Request) × (more : List ℕ) × (requests ≡ before ++ last ∷ later)
    × (written ++ more ≡ replies f before ++ text last (f last) true)

-- A call on its stream failed: the octets written are a front of the texts of all whole requests with the text of the fault that
-- ends them; where a drain came, the last text that was begun may say that the connection closes.
pub record WhereAbandoned (f : Request → Answer) (closes : Bool) (read written : List ℕ) : Type 0 where
  pub requests : List Request
  pub end : End
  pub reads : Requests requests end read
  pub front : FrontOf f closes requests end written

-- by whether it was abandoned, and whether a drain ended it
abbrev pub EndsSo : Bool → Bool → Bool → (Request → Answer) → Option StreamOctets → List ℕ → List ℕ → ℕ → Type 0
EndsSo true drained closes f stream read written answered = WhereAbandoned f closes read written
EndsSo false true closes f stream read written answered = WithDrain f closes read written answered
EndsSo false false closes f stream read written answered = WithoutDrain f stream read written answered

-- the stream gave the octets read and took those written
pub record IsPassed (read written : List ℕ) (o : StreamOctets) : Type 0 where
  pub given : o.given ≡ read
  pub written_is : o.written ≡ written

-- What is promised of a connection that has ended, where its service tells its answers and its stream tells its octets.
pub record KeepsPromise {C : Type 0} (stream_told : C → Option StreamOctets) (stream_faults : C → ℕ) (told : Option (Request → Answer)) (s : Finished C) : Type 0 where
  pub texts : IfSome told (λ f. EndsSo s.abandoned s.drained s.closes f (stream_told s.stream) s.read s.written s.answered)
  pub passed : IfSome (stream_told s.stream) (IsPassed s.read s.written)
  pub fault : s.abandoned ≡ true → 0 < stream_faults s.stream

-- what a connection was when it ended
pub record EndsAs {C : Type 0} (c : StreamConnection C) (s : Finished C) : Type 0 where
  pub stream : s.stream ≡ c.stream
  pub read : s.read ≡ c.octets
  pub written : s.written ≡ take c.sent c.made
  pub answered : s.answered ≡ c.answered
  pub abandoned : s.abandoned ≡ c.abandoned
  pub drained : s.drained ≡ is_drained c.stage
  pub closes : s.closes ≡ is_closing c.stage
