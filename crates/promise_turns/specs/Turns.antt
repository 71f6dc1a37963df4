-- What turns answer, against the definitions.
use Rattle.std.specs.Prelude.{◌≡◌, ℕ, Option, None, Some, IsSome, Bool, true, false}
use Rattle.kj_model.specs.World.{State, Setting}
use Rattle.kj_model.specs.Changes.{silent}
use Rattle.kj_model.specs.Calls.{Turned, Fired, Idle, NoMemory, Stopped, after_turn}
use Rattle.kj_ownership.specs.Fits.{Fits}
use Rattle.kj_ownership.specs.Kept.{Rests}
use Rattle.promise_turns.specs.declared.turned.Turned.{Turned as TurnedCase}
use Rattle.promise_turns.specs.declared.turned.Turned.TheVariants.{Fired as FiredCase, Idle as IdleCase, NoMemory as NoMemoryCase, Stopped as StoppedCase}
use Rattle.promise_turns.specs.declared.turned.TakenTurn.{TakenTurn as TakenCase}
use Rattle.promise_turns.specs.declared.turned.TakenTurn.TheVariants.{Fired as FiredIn, Idle as IdleIn, NoMemory as NoMemoryIn}
use Rattle.promise_firing.specs.Events.{event_ended}
use Rattle.promise_turns.specs.Events.{fired}

-- the answer that each variant is
abbrev pub turned_of : TurnedCase → Turned
turned_of FiredCase = Fired
turned_of IdleCase = Idle
turned_of NoMemoryCase = NoMemory
turned_of StoppedCase = Stopped

-- whether a step of this turn found no memory
abbrev pub lacked_memory : TurnedCase → Bool
lacked_memory NoMemoryCase = true
lacked_memory other = false

-- a state with this answer
abbrev pub turned_as : TurnedCase → State → State × Turned
turned_as turned s = (s, turned_of turned)

-- an event was taken: it fires, no event fires any more, and the queue is rewound
abbrev pub turned_at : ℕ → Setting → State → State × Turned
turned_at n setting s = after_turn (silent event_ended (fired n setting s))

-- between two turns, over a store that takes no more nodes than it has slots
abbrev pub MayTurn : Setting → State → Type 0
MayTurn setting s = Fits setting × Rests s

-- between two turns of a loop that runs
abbrev pub RunsOn : Setting → State → Type 0
RunsOn setting s = MayTurn setting s × (s.world.stopped ≡ false)

-- what such a turn answers
abbrev pub turned_in : TakenCase → TurnedCase
turned_in (FiredIn event) = FiredCase
turned_in IdleIn = IdleCase
turned_in NoMemoryIn = NoMemoryCase

-- the event that fired was the first, and there was none where none fired
abbrev pub IsTaken : TakenCase → Option ℕ → Type 0
IsTaken (FiredIn event) head = head ≡ Some event.number.0
IsTaken IdleIn head = head ≡ None
IsTaken NoMemoryIn head = IsSome head
