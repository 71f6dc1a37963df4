-- The state of a server, and what the run of a step does to it.
use Rattle.std.specs.Prelude.{◌≡◌, ℕ, Option, Some, Bool, true, false, slice_set}
use Rattle.kj_base.specs.Commands.{Action}
use Rattle.http_stream.specs.declared.next.ConnectionStep.{ConnectionStep}
use Rattle.http_stream.specs.Moves.{Begins}
use Rattle.http_stream.specs.Places.{Placed}
use Rattle.http_stream.specs.Steps.{Held}
use Rattle.http_steps.specs.declared.server_step.ServerStep.{ServerStep}
use Rattle.http_steps.specs.declared.server_step.ServerStep.TheVariants as server
use Rattle.http_steps.specs.Actions.{plain_action}
use Rattle.http_steps.specs.Table.{Places, Tellings, StepsIn, LacksAt, TakesServed}

-- its service, its connections by their places, whether the drain began, and how often memory was
-- lacking
pub record Server (V C : Type 0) : Type 0 where
  pub service : V
  pub places : Places C
  pub drained : Bool
  pub lacks : ℕ

-- a connection's step over an input
pub record Moves {V C : Type 0} (s : Tellings C) (step : ConnectionStep) (input : Option ℕ)
    (old new : Server V C) (given : Action) : Type 0 where
  pub step_is : StepsIn s step old.drained input old.places new.places old.service new.service given
  pub drained : new.drained ≡ old.drained
  pub lacks : new.lacks ≡ old.lacks

-- the step over the drain says that it began; any other that moves no connection leaves the server
-- as it was
abbrev pub drained_by : {V C : Type 0} → ServerStep → Server V C → Server V C
drained_by server.Drain s = record s { drained = true }
drained_by (server.Connection step) s = s
drained_by server.Failed s = s
drained_by server.Payload s = s
drained_by server.Foreign s = s

pub record MovesNone {V C : Type 0} (step : ServerStep) (old new : Server V C) (given : Action)
    : Type 0 where
  pub server : new ≡ drained_by step old
  pub action : given ≡ plain_action step

-- The run of a step: what it does to the server, and its action, by what its number and its input
-- stand for.
abbrev pub Runs : {V C : Type 0} → Tellings C → ServerStep → Option ℕ
    → Server V C → Server V C → Action → Type 0
Runs s server.Drain input old new given = MovesNone server.Drain old new given
Runs s (server.Connection step) input old new given = Moves s step input old new given
Runs s server.Failed input old new given = MovesNone server.Failed old new given
Runs s server.Payload input old new given = MovesNone server.Payload old new given
Runs s server.Foreign input old new given = MovesNone server.Foreign old new given

-- memory was lacking in a connection's step
pub record MovesOut {V C : Type 0} (step : ConnectionStep) (input : Option ℕ)
    (old new : Server V C) : Type 0 where
  pub place : ℕ
  pub input_is : input ≡ Some place
  pub lacking : LacksAt step place old.places new.places old.service new.service
  pub drained : new.drained ≡ old.drained

-- memory was lacking in a run of a step, which is a connection's
abbrev pub RunsOut : {V C : Type 0} → ServerStep → Option ℕ → Server V C → Server V C → Type 0
RunsOut server.Drain input old new = ⊥
RunsOut (server.Connection step) input old new = MovesOut step input old new
RunsOut server.Failed input old new = ⊥
RunsOut server.Payload input old new = ⊥
RunsOut server.Foreign input old new = ⊥

-- a connection over this stream that did nothing yet was put at a place
pub record Admits {V C : Type 0} (place : ℕ) (stream : C) (old new : Server V C) : Type 0 where
  pub held : Held C
  pub begins : Begins stream held.connection
  pub waits : held.waits ≡ false
  pub server : new ≡ record old { places = slice_set old.places place (Some held) }

-- a connection that has ended was taken; none comes exactly where none that has ended stands there
pub record Takes {V C : Type 0} (place : ℕ) (old new : Server V C) (served : Option (Placed C))
    : Type 0 where
  pub takes : TakesServed place old.places new.places served
  pub server : new ≡ record old { places = new.places }
