-- What the moves of a connection over a stream do.
use Rattle.std.specs.Prelude.{◌≡◌, ℕ, ◌+◌, ◌-◌, ◌^◌, ◌≤◌, min, Bool, true, false, ◌==◌, ◌++◌, length, drop, []}
use Rattle.std.specs.Prelude.{Option, None, IfSome, Result, Ok, Err}
use Rattle.http_core.specs.declared.message.Request.{Request}
use Rattle.http_core.specs.declared.message.Answer.{Answer}
use Rattle.http_core.specs.Text.{text}
use Rattle.http_heads.specs.Framing.{persists}
use Rattle.kj_base.specs.declared.memory.NoMemory.{NoMemory}
use Rattle.kj_io.specs.Streams.{StreamOctets, ReadsBehind, HasReadCause, Writes, HasWriteCause}
use Rattle.kj_io.specs.declared.stream.Got.{Got}
use Rattle.kj_io.specs.declared.stream.Got.TheVariants as got
use Rattle.kj_io.specs.declared.stream.Put.{Put}
use Rattle.kj_io.specs.declared.stream.Put.TheVariants as put
use Rattle.http_stream.specs.declared.stage.Stage.{Stage}
use Rattle.http_stream.specs.declared.stage.Stage.TheVariants.{Open, Reading, Asked, Settled, Ended, Drained, Broken}
use Rattle.http_stream.specs.declared.next.Wants.{Wants}
use Rattle.http_stream.specs.declared.next.Wants.TheVariants as wants
use Rattle.http_stream.specs.declared.next.ConnectionStep.TheVariants as steps
use Rattle.http_stream.specs.declared.next.Next.{Next}
use Rattle.http_stream.specs.declared.next.Next.TheVariants as next
use Rattle.http_stream.specs.declared.connection.StreamConnection.{StreamConnection}
use Rattle.http_stream.specs.Stages.{closes_after, drained_stage, answered_stage, is_drained, unlooked}

-- a connection over this stream that did nothing yet
pub record Begins {C : Type 0} (stream : C) (c : StreamConnection C) : Type 0 where
  pub stream_is : c.stream ≡ stream
  pub stage : c.stage ≡ Reading
  pub octets : c.octets ≡ []
  pub made : c.made ≡ []
  pub sent : c.sent ≡ 0
  pub answered : c.answered ≡ 0
  pub abandoned : c.abandoned ≡ false

-- texts that weren't written go first
abbrev pub write_or : Bool → Wants → Wants
write_or true wanted = wanted
write_or false wanted = wants.Write

-- what a connection wants, by whether all texts were written
abbrev pub wants_at : Bool → Stage → Bool → Wants
wants_at true stage all_sent = wants.Abandoned
wants_at false (Open left) all_sent = wants.Look
wants_at false Reading all_sent = write_or all_sent wants.Read
wants_at false (Asked left) all_sent = wants.Answer
wants_at false (Settled end) all_sent = write_or all_sent wants.End
wants_at false (Ended end) all_sent = write_or all_sent wants.End
wants_at false (Drained closes) all_sent = write_or all_sent wants.End
wants_at false Broken all_sent = wants.Memory

abbrev pub wants_of : {C : Type 0} → StreamConnection C → Wants
wants_of c = wants_at c.abandoned c.stage (c.sent == length c.made)

-- what follows a step that read or answered, and one that wrote: a request that is whole then goes through the reading step
abbrev pub after_reading : Wants → Result Next NoMemory
after_reading wants.Look = Ok (next.Go steps.Write)
after_reading wants.Read = Ok (next.Go steps.Read)
after_reading wants.Answer = Ok (next.Go steps.Answer)
after_reading wants.Write = Ok (next.Go steps.Write)
after_reading wants.End = Ok next.End
after_reading wants.Abandoned = Ok next.Abandoned
after_reading wants.Memory = Err (record {})

abbrev pub after_writing : Wants → Result Next NoMemory
after_writing wants.Look = Ok (next.Go steps.Write)
after_writing wants.Read = Ok (next.Go steps.Read)
after_writing wants.Answer = Ok (next.Go steps.Read)
after_writing wants.Write = Ok (next.Go steps.Write)
after_writing wants.End = Ok next.End
after_writing wants.Abandoned = Ok next.Abandoned
after_writing wants.Memory = Err (record {})

-- where a drain may have begun
abbrev pub drained_of : {C : Type 0} → Bool → StreamConnection C → StreamConnection C
drained_of drained c = record c { stage = drained_stage drained c.stage }

-- whether a connection is abandoned after a call on its stream: where it was, or where the call failed
abbrev pub read_abandons : Got → Bool → Bool
read_abandons (got.Bytes n) abandoned = abandoned
read_abandons got.End abandoned = abandoned
read_abandons got.NotYet abandoned = abandoned
read_abandons got.Failed abandoned = true

abbrev pub write_abandons : Put → Bool → Bool
write_abandons (put.Bytes n) abandoned = abandoned
write_abandons put.NotYet abandoned = abandoned
write_abandons put.Failed abandoned = true

-- the octets behind the last request were looked at, and the stream wasn't called
pub record Looked {C : Type 0} (old new : StreamConnection C) : Type 0 where
  pub stream : new.stream ≡ old.stream
  pub octets : new.octets ≡ old.octets
  pub sent : new.sent ≡ old.sent
  pub answered : new.answered ≡ old.answered
  pub abandoned : new.abandoned ≡ old.abandoned
  pub drained : is_drained new.stage ≡ false
  pub looked : unlooked false new.stage ≡ None

-- the stream was read once, and answered so
pub record ReadOnce {C : Type 0} (told : C → Option StreamOctets) (faults pauses : C → ℕ) (answer : Got) (old new : StreamConnection C) : Type 0 where
  pub reads : ReadsBehind (told old.stream) (told new.stream) old.octets new.octets answer
  pub cause : HasReadCause (faults old.stream) (faults new.stream) (pauses old.stream) (pauses new.stream) answer
  pub sent : new.sent ≡ old.sent
  pub answered : new.answered ≡ old.answered
  pub abandoned : new.abandoned ≡ read_abandons answer old.abandoned
  pub paused : answer ≡ got.NotYet → new.stage ≡ old.stage
  pub drained : is_drained new.stage ≡ false

-- the text of this answer was made for the request that is whole; it says that the connection closes where a drain had begun
pub record AnsweredOnce {C : Type 0} (drained : Bool) (answer : Answer) (old new : StreamConnection C) : Type 0 where
  pub stage : (left : ℕ) → old.stage ≡ Asked left → new.stage ≡ answered_stage (persists old.request.head) drained left
  pub made : (left : ℕ) → old.stage ≡ Asked left
      → new.made ≡ old.made ++ text old.request answer (closes_after (persists old.request.head) drained)
  pub count : (left : ℕ) → old.stage ≡ Asked left → new.answered ≡ min (old.answered + 1) (2 ^ 64 - 1)
  pub stream : new.stream ≡ old.stream
  pub octets : new.octets ≡ old.octets
  pub sent : new.sent ≡ old.sent
  pub abandoned : new.abandoned ≡ old.abandoned

-- a service that tells so answered the request that is whole, and the text of that answer was made
pub record AnsweredBy {C : Type 0} (told : Option (Request → Answer)) (drained : Bool) (old new : StreamConnection C)
    : Type 0 where
  pub answer : Answer
  pub told_is : IfSome told (λ f. answer ≡ f old.request)
  pub lowest : 200 ≤ answer.status
  pub highest : answer.status ≤ 599
  pub once : AnsweredOnce drained answer old new

-- the texts that weren't written were written once, and the stream answered so
pub record WroteOnce {C : Type 0} (told : C → Option StreamOctets) (faults pauses : C → ℕ) (answer : Put) (old new : StreamConnection C) : Type 0 where
  pub writes : Writes (told old.stream) (told new.stream) answer (drop old.sent old.made)
  pub cause : HasWriteCause (faults old.stream) (faults new.stream) (pauses old.stream) (pauses new.stream) answer
  pub stage : new.stage ≡ old.stage
  pub octets : new.octets ≡ old.octets
  pub made : new.made ≡ old.made
  pub answered : new.answered ≡ old.answered
  pub abandoned : new.abandoned ≡ write_abandons answer old.abandoned
