-- The connections of a server by their places, and what a step does to them.
use Rattle.std.specs.Prelude.{◌≡◌, ◌<◌, ℕ, List, Option, None, Some, Bool, true, false, ⊤}
use Rattle.std.specs.Prelude.{length, slice_index_or, slice_set}
use Rattle.kj_base.specs.Commands.{Action}
use Rattle.kj_base.specs.declared.numbers.Name.{Name}
use Rattle.kj_io.specs.Streams.{StreamOctets}
use Rattle.http_core.specs.declared.message.Request.{Request}
use Rattle.http_core.specs.declared.message.Answer.{Answer}
use Rattle.http_stream.specs.declared.next.ConnectionStep.{ConnectionStep}
use Rattle.http_stream.specs.declared.next.ConnectionStep.TheVariants as steps
use Rattle.http_stream.specs.declared.next.Next.{Next}
use Rattle.http_stream.specs.Moves.{wants_of}
use Rattle.http_stream.specs.Places.{Placed}
use Rattle.http_stream.specs.Served.{EndsAs}
use Rattle.http_stream.specs.declared.next.Wants.{Wants}
use Rattle.http_stream.specs.Steps.{Held, IsAsked, IsOver, ReadStep, AnswerStep, WriteStep}
use Rattle.http_steps.specs.declared.server_step.ServerStep.TheVariants as server
use Rattle.http_steps.specs.Actions.{cell_of, connection_action, plain_action}

-- a place for each connection
abbrev pub Places : Type 0 → Type 0
Places C = List (Option (Held C))

-- the connection at a place
abbrev pub held_at : {C : Type 0} → Places C → ℕ → Option (Held C)
held_at places place = slice_index_or places place None

-- whether a connection waits for its stream; and then its cell
abbrev pub waits_in : {C : Type 0} → Option (Held C) → Bool
waits_in None = false
waits_in (Some held) = held.waits

abbrev pub cell_if : Bool → ℕ → Option Name
cell_if true place = Some (record { 0 = cell_of place })
cell_if false place = None

abbrev pub waiting_at : {C : Type 0} → Places C → ℕ → Option Name
waiting_at places place = cell_if (waits_in (held_at places place)) place

-- what a service tells, its answers, and the streams of a type: their octets, and how often a call
-- failed or paused
pub record Tellings (C : Type 0) : Type 0 where
  pub answers : Option (Request → Answer)
  pub told : C → Option StreamOctets
  pub faults : C → ℕ
  pub pauses : C → ℕ

abbrev pub tellings : {C : Type 0} → Option (Request → Answer) → (C → Option StreamOctets) → (C → ℕ)
    → (C → ℕ) → Tellings C
tellings answers told faults pauses = record {
  answers = answers;
  told = told;
  faults = faults;
  pauses = pauses;
}

-- a step of a connection, and what follows it
abbrev pub StepsSo : {C : Type 0} → Tellings C → ConnectionStep → Bool → Held C → Held C → Next
    → Type 0
StepsSo s steps.Read drained old new following =
    ReadStep s.told s.faults s.pauses drained old new following
StepsSo s steps.Answer drained old new following = AnswerStep s.answers drained old new following
StepsSo s steps.Write drained old new following =
    WriteStep s.told s.faults s.pauses drained old new following

-- only an answer that a connection wants calls the service
abbrev pub ServiceStays : {V : Type 0} → ConnectionStep → Wants → V → V → Type 0
ServiceStays steps.Read wanted old new = new ≡ old
ServiceStays steps.Answer wanted old new = IsAsked wanted old new
ServiceStays steps.Write wanted old new = new ≡ old

-- The connection at a place took one step, the others none, and the action is the one of what
-- follows.
pub record StepsOn {V C : Type 0} (s : Tellings C) (step : ConnectionStep) (drained : Bool)
    (place : ℕ) (held : Held C) (old new : Places C) (before later : V) (given : Action)
    : Type 0 where
  pub after : Held C
  pub following : Next
  pub step_is : StepsSo s step drained held after following
  pub places : new ≡ slice_set old place (Some after)
  pub service : ServiceStays step (wants_of held.connection) before later
  pub action : given ≡ connection_action held.waits drained place following

-- no connection took a step
pub record StepsNone {V C : Type 0} (step : ConnectionStep) (old new : Places C)
    (before later : V) (given : Action) : Type 0 where
  pub places : new ≡ old
  pub service : later ≡ before
  pub action : given ≡ plain_action (server.Connection step)

-- a step over a place, by whether a connection stands there
abbrev pub StepsAt : {V C : Type 0} → Tellings C → ConnectionStep → Bool → ℕ → Option (Held C)
    → Places C → Places C → V → V → Action → Type 0
StepsAt s step drained place None old new before later given =
    StepsNone step old new before later given
StepsAt s step drained place (Some held) old new before later given =
    StepsOn s step drained place held old new before later given

-- a step over an input, by whether it is a place
abbrev pub StepsIn : {V C : Type 0} → Tellings C → ConnectionStep → Bool → Option ℕ
    → Places C → Places C → V → V → Action → Type 0
StepsIn s step drained None old new before later given = StepsNone step old new before later given
StepsIn s step drained (Some place) old new before later given =
    StepsAt s step drained place (held_at old place) old new before later given

-- an answer that wasn't made leaves its connection as it was
abbrev pub LeavesSo : {C : Type 0} → ConnectionStep → Held C → Held C → Type 0
LeavesSo steps.Read old new = ⊤
LeavesSo steps.Answer old new = new ≡ record old { waits = false }
LeavesSo steps.Write old new = ⊤

-- Memory was lacking in a step of one connection, which stays at its place; the others are as they
-- were, and so is the service where no answer was wanted.
pub record LacksAt {V C : Type 0} (step : ConnectionStep) (place : ℕ) (old new : Places C)
    (before later : V) : Type 0 where
  pub held : Held C
  pub after : Held C
  pub stood : held_at old place ≡ Some held
  pub places : new ≡ slice_set old place (Some after)
  pub leaves : LeavesSo step held after
  pub service : ServiceStays step (wants_of held.connection) before later

-- there is a place for a connection, and none stands there
pub record IsFree {C : Type 0} (place : ℕ) (places : Places C) : Type 0 where
  pub room : place < length places
  pub free : held_at places place ≡ None

-- a connection stands there, and has ended
abbrev pub IsOverAt : {C : Type 0} → Option (Held C) → Type 0
IsOverAt None = ⊥
IsOverAt (Some held) = IsOver (wants_of held.connection)

-- a connection that has ended was taken from its place
pub record TakenFrom {C : Type 0} (place : ℕ) (old new : Places C) (held : Held C)
    : Type 0 where
  pub stood : held_at old place ≡ Some held
  pub over : IsOver (wants_of held.connection)
  pub places : new ≡ slice_set old place None

-- none was taken, since none that has ended stands there
pub record TakenNone {C : Type 0} (place : ℕ) (old new : Places C) : Type 0 where
  pub going : IsOverAt (held_at old place) → ⊥
  pub places : new ≡ old

abbrev pub TakesAt : {C : Type 0} → ℕ → Places C → Places C → Option (Held C) → Type 0
TakesAt place old new None = TakenNone place old new
TakesAt place old new (Some held) = TakenFrom place old new held

-- what a connection was that was taken from its place
pub record TakenServed {C : Type 0} (place : ℕ) (old new : Places C) (served : Placed C)
    : Type 0 where
  pub held : Held C
  pub taken : TakenFrom place old new held
  pub index : served.index ≡ place
  pub ends : EndsAs held.connection served.finished

abbrev pub TakesServed : {C : Type 0} → ℕ → Places C → Places C → Option (Placed C) → Type 0
TakesServed place old new None = TakenNone place old new
TakesServed place old new (Some served) = TakenServed place old new served
