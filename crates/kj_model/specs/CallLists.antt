-- Lists of calls where no step finds memory.
use Rattle.std.specs.Prelude.{List, [], ◌∷◌, Some, None}
use Rattle.kj_base.specs.declared.outcomes.Kind.TheVariants.{Failed}
use Rattle.kj_base.specs.Commands.{Broken, Later, Pair, Then, NewSet, Add, Detach}
use Rattle.kj_base.specs.Record.{Item, Free}
use Rattle.kj_model.specs.World.{State, new_state}
use Rattle.kj_model.specs.Places.{table_fits}
use Rattle.kj_model.specs.Apply.{Stopped}
use Rattle.kj_model.specs.Calls.{Call, CallApply, CallTurn, CallRun, CallWait, CallTakeAsk, CallClose, Reply as ReplyOf, Applied, TurnedBy, WaitedBy, TookAsk, Closed, Fired, NoMemory, Stopped as StoppedTurn, WaitNoMemory, WaitStopped, calls}
use Rattle.kj_model.specs.Log.{listed}
use Rattle.kj_model.specs.Scripts.{exception}

-- the record of a list of calls, and their replies
pub record Seen : Type 0 where
  pub past : List Item
  pub replies : List ReplyOf

-- what is seen of a state and the replies before it
abbrev pub seen : State × List ReplyOf → Seen
seen r = record { past = r.0.past; replies = r.1 }

-- what is seen of a new loop after these calls, where no step finds memory
abbrev pub seen_without_memory : List Call → Seen
seen_without_memory cs = seen (calls (record { fits = table_fits; answer = listed [] }) cs (new_state (record { slots = 64; names = 64 })))

-- a Then's step finds no memory: nothing more fires, and the closing frees what is left
abbrev pub no_memory_calls : List Call
no_memory_calls = CallApply (Later 1) ∷ CallApply (Then 2 1 (Some 10) None) ∷ CallApply (Detach 2) ∷ CallTurn ∷ CallApply (Later 9) ∷ CallTurn ∷ CallRun 0 ∷ CallWait 9 1 ∷ CallTakeAsk ∷ CallClose ∷ []

-- its record
abbrev pub no_memory_past : List Item
no_memory_past = Free 1 ∷ Free 2 ∷ Free 3 ∷ []

-- its replies
abbrev pub no_memory_replies : List ReplyOf
no_memory_replies = Applied None ∷ Applied None ∷ Applied None ∷ TurnedBy NoMemory ∷ Applied (Some Stopped) ∷ TurnedBy StoppedTurn ∷ TurnedBy Fired ∷ WaitedBy WaitStopped ∷ TookAsk None ∷ Closed (2 ∷ 3 ∷ []) ∷ []

-- an error step finds no memory in a wait: the awaited tree is left over, before the Task that has left its set
abbrev pub no_memory_waiting_calls : List Call
no_memory_waiting_calls = CallApply (NewSet 5 (Some 20)) ∷ CallApply (Broken 1 (exception Failed 1000)) ∷ CallApply (Add 5 1) ∷ CallApply (Pair 7 8) ∷ CallWait 7 3 ∷ CallTurn ∷ CallClose ∷ []

-- its record
abbrev pub no_memory_waiting_past : List Item
no_memory_waiting_past = Free 1 ∷ Free 3 ∷ Free 2 ∷ []

-- its replies
abbrev pub no_memory_waiting_replies : List ReplyOf
no_memory_waiting_replies = Applied None ∷ Applied None ∷ Applied None ∷ Applied None ∷ WaitedBy WaitNoMemory ∷ TurnedBy StoppedTurn ∷ Closed (3 ∷ 2 ∷ []) ∷ []
