-- What the steps of a connection over a stream do.
use Rattle.std.specs.Prelude.{◌≡◌, ℕ, Bool, true, false, Option, Result, Ok, ⊤}
use Rattle.kj_base.specs.declared.memory.NoMemory.{NoMemory}
use Rattle.http_core.specs.declared.message.Request.{Request}
use Rattle.http_core.specs.declared.message.Answer.{Answer}
use Rattle.kj_io.specs.Streams.{StreamOctets}
use Rattle.kj_io.specs.declared.stream.Got.{Got}
use Rattle.kj_io.specs.declared.stream.Got.TheVariants as got
use Rattle.kj_io.specs.declared.stream.Put.{Put}
use Rattle.kj_io.specs.declared.stream.Put.TheVariants as put
use Rattle.http_stream.specs.declared.next.Wants.{Wants}
use Rattle.http_stream.specs.declared.next.Wants.TheVariants as wants
use Rattle.http_stream.specs.declared.next.ConnectionStep.TheVariants as steps
use Rattle.http_stream.specs.declared.next.Next.{Next}
use Rattle.http_stream.specs.declared.next.Next.TheVariants as next
use Rattle.http_stream.specs.declared.connection.StreamConnection.{StreamConnection}
use Rattle.http_stream.specs.Moves.{wants_of, drained_of, after_reading, after_writing, Looked, ReadOnce, AnsweredBy, WroteOnce}

-- a connection, and whether it waits for its stream
pub record Held (C : Type 0) : Type 0 where
  pub connection : StreamConnection C
  pub waits : Bool

abbrev pub is_wait : Next → Bool
is_wait (next.Go step) = false
is_wait (next.Wait step) = true
is_wait next.End = false
is_wait next.Abandoned = false

-- what follows a step in which the stream was read and answered so
abbrev pub after_read : Got → Wants → Result Next NoMemory
after_read (got.Bytes n) wanted = after_reading wanted
after_read got.End wanted = after_reading wanted
after_read got.NotYet wanted = Ok (next.Wait steps.Read)
after_read got.Failed wanted = after_reading wanted

-- what follows a step in which the stream took so much
abbrev pub after_write : Put → Wants → Result Next NoMemory
after_write (put.Bytes n) wanted = after_writing wanted
after_write put.NotYet wanted = Ok (next.Wait steps.Write)
after_write put.Failed wanted = after_writing wanted

-- the reading step, by what the connection wants: one read, a look, or nothing
abbrev pub ReadMove : {C : Type 0} → (C → Option StreamOctets) → (C → ℕ) → (C → ℕ) → Wants → StreamConnection C → StreamConnection C → Next → Type 0
ReadMove told faults pauses wants.Look old new following = Looked old new × (Ok following ≡ after_reading (wants_of new))
ReadMove told faults pauses wants.Read old new following =
    (answer : Got) × ReadOnce told faults pauses answer old new × (Ok following ≡ after_read answer (wants_of new))
ReadMove told faults pauses wants.Answer old new following = (new ≡ old) × (Ok following ≡ after_reading wants.Answer)
ReadMove told faults pauses wants.Write old new following = (new ≡ old) × (Ok following ≡ after_reading wants.Write)
ReadMove told faults pauses wants.End old new following = (new ≡ old) × (Ok following ≡ after_reading wants.End)
ReadMove told faults pauses wants.Abandoned old new following = (new ≡ old) × (Ok following ≡ after_reading wants.Abandoned)
ReadMove told faults pauses wants.Memory old new following = ⊥

pub record ReadStep {C : Type 0} (told : C → Option StreamOctets) (faults pauses : C → ℕ) (drained : Bool) (old new : Held C) (following : Next) : Type 0 where
  pub move : ReadMove told faults pauses (wants_of (drained_of drained old.connection)) (drained_of drained old.connection) new.connection following
  pub waits : new.waits ≡ is_wait following

-- the answering step: one answer, or nothing
abbrev pub AnswerMove : {C : Type 0} → Option (Request → Answer) → Bool → Wants → StreamConnection C → StreamConnection C → Next → Type 0
AnswerMove told drained wants.Look old new following = (new ≡ old) × (Ok following ≡ after_reading wants.Look)
AnswerMove told drained wants.Read old new following = (new ≡ old) × (Ok following ≡ after_reading wants.Read)
AnswerMove told drained wants.Answer old new following = AnsweredBy told drained old new × (Ok following ≡ after_reading (wants_of new))
AnswerMove told drained wants.Write old new following = (new ≡ old) × (Ok following ≡ after_reading wants.Write)
AnswerMove told drained wants.End old new following = (new ≡ old) × (Ok following ≡ after_reading wants.End)
AnswerMove told drained wants.Abandoned old new following = (new ≡ old) × (Ok following ≡ after_reading wants.Abandoned)
AnswerMove told drained wants.Memory old new following = ⊥

pub record AnswerStep {C : Type 0} (told : Option (Request → Answer)) (drained : Bool) (old new : Held C) (following : Next) : Type 0 where
  pub move : AnswerMove told drained (wants_of old.connection) old.connection new.connection following
  pub waits : new.waits ≡ is_wait following

-- the service is called where an answer is wanted, and else stays as it was
abbrev pub IsAsked : {V : Type 0} → Wants → V → V → Type 0
IsAsked wants.Look old new = new ≡ old
IsAsked wants.Read old new = new ≡ old
IsAsked wants.Answer old new = ⊤
IsAsked wants.Write old new = new ≡ old
IsAsked wants.End old new = new ≡ old
IsAsked wants.Abandoned old new = new ≡ old
IsAsked wants.Memory old new = new ≡ old

-- a look, where one is wanted
abbrev pub LooksAt : {C : Type 0} → Wants → StreamConnection C → StreamConnection C → Type 0
LooksAt wants.Look old new = Looked old new
LooksAt wants.Read old new = new ≡ old
LooksAt wants.Answer old new = new ≡ old
LooksAt wants.Write old new = new ≡ old
LooksAt wants.End old new = new ≡ old
LooksAt wants.Abandoned old new = new ≡ old
LooksAt wants.Memory old new = new ≡ old

-- one write, or nothing
abbrev pub WriteMove : {C : Type 0} → (C → Option StreamOctets) → (C → ℕ) → (C → ℕ) → Wants → StreamConnection C → StreamConnection C → Next → Type 0
WriteMove told faults pauses wants.Look old new following = (new ≡ old) × (Ok following ≡ after_writing wants.Look)
WriteMove told faults pauses wants.Read old new following = (new ≡ old) × (Ok following ≡ after_writing wants.Read)
WriteMove told faults pauses wants.Answer old new following = (new ≡ old) × (Ok following ≡ after_writing wants.Answer)
WriteMove told faults pauses wants.Write old new following =
    (answer : Put) × WroteOnce told faults pauses answer old new × (Ok following ≡ after_write answer (wants_of new))
WriteMove told faults pauses wants.End old new following = (new ≡ old) × (Ok following ≡ after_writing wants.End)
WriteMove told faults pauses wants.Abandoned old new following = (new ≡ old) × (Ok following ≡ after_writing wants.Abandoned)
WriteMove told faults pauses wants.Memory old new following = ⊥

-- the writing step: a look where one is wanted, and then, unless a request is whole, one write of all texts that weren't written
pub record WriteStep {C : Type 0} (told : C → Option StreamOctets) (faults pauses : C → ℕ) (drained : Bool) (old new : Held C) (following : Next) : Type 0 where
  pub middle : StreamConnection C
  pub looks : LooksAt (wants_of (drained_of drained old.connection)) (drained_of drained old.connection) middle
  pub move : WriteMove told faults pauses (wants_of middle) middle new.connection following
  pub waits : new.waits ≡ is_wait following

-- nothing is wanted any more
abbrev pub IsOver : Wants → Type 0
IsOver wants.Look = ⊥
IsOver wants.Read = ⊥
IsOver wants.Answer = ⊥
IsOver wants.Write = ⊥
IsOver wants.End = ⊤
IsOver wants.Abandoned = ⊤
IsOver wants.Memory = ⊥
