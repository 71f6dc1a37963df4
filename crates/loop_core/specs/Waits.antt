-- The turns of a wait, against the definitions.
use Rattle.std.specs.Prelude.{◌≡◌, ℕ, Some, Bool, true, false}
use Rattle.kj_model.specs.Calls.{Waited, WaitIdle, WaitNoMemory, Turns, awaited_freed, let_go, lost, wait_done, wait_valued}
use Rattle.kj_model.specs.Changes.{silent}
use Rattle.kj_model.specs.Value.{value}
use Rattle.kj_model.specs.World.{World, State, Setting, Promise, held_at}
use Rattle.kj_ownership.specs.Kept.{Rests}
use Rattle.promise_commands.specs.declared.waited.Waited.{Waited as WaitedCase}
use Rattle.promise_commands.specs.declared.waited.Waited.TheVariants.{NoMemory as NoMemoryCase}
use Rattle.promise_commands.specs.Waits.{waited_of}
use Rattle.promise_walks.specs.Walks.{Both}
use Rattle.promise_walks.specs.Values.{Rule}
use Rattle.loop_core.specs.Loops.{StandsAt, TakesNoMore}
use Rattle.loop_core.specs.declared.waiting.WaitEnd.{WaitEnd}
use Rattle.loop_core.specs.declared.waiting.WaitEnd.TheVariants.{Ready, Idle, AllMade, NoMemory}

-- behind a turn of a wait: the store takes no more nodes than it has slots, nodes and names are those of this world, and the
-- next turn may begin
pub record Rested (rule : Rule) (Nodes Names : World → Type 0) (s : State) : Type 0 where
  pub takes : TakesNoMore rule
  pub stands : Both Nodes Names s.world
  pub rests : Rests s

-- the same of a loop that runs
pub record Waits (rule : Rule) (Nodes Names : World → Type 0) (s : State) : Type 0 where
  pub rested : Rested rule Nodes Names s
  pub runs : s.world.stopped ≡ false

-- what is left to do of a wait once its turns have ended
abbrev pub left_of_wait : WaitEnd → Setting → State → State × Waited
left_of_wait Ready setting s = wait_done setting s
left_of_wait Idle setting s = (let_go s, WaitIdle)
left_of_wait AllMade setting s = (let_go s, Turns)
left_of_wait NoMemory setting s = (silent lost s, WaitNoMemory)

-- whether a step of its last turn found no memory
abbrev pub lacked_at : WaitEnd → Bool
lacked_at NoMemory = true
lacked_at other = false

-- between two calls of a loop that runs, where this name has this promise
pub record MayHold (rule : Rule) (Nodes Names : World → Type 0) (name root : ℕ) (s : State) : Type 0 where
  pub stands : StandsAt rule Nodes Names s
  pub runs : s.world.stopped ≡ false
  pub held : held_at name s.world.names ≡ Some (Promise root)

-- nodes and names are those of this world
abbrev pub StandsIn : (World → Type 0) → (World → Type 0) → State → Type 0
StandsIn Nodes Names s = Both Nodes Names s.world

-- the tree that is awaited is freed, with the wait's event
abbrev pub awaited_gone : State → State
awaited_gone s = awaited_freed s.world.awaited s

-- the tree of a wait is evaluated and freed
abbrev pub valued_at : ℕ → Setting → State → State × Waited
valued_at root setting s = let r = value setting root s in wait_valued r.1 r.0

-- a state with this answer
abbrev pub waited_as : WaitedCase → State → State × Waited
waited_as waited s = (s, waited_of waited)

-- whether a step of this wait found no memory
abbrev pub lacked_waiting : WaitedCase → Bool
lacked_waiting NoMemoryCase = true
lacked_waiting other = false
