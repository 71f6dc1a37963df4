-- The world of a loop.
use Rattle.std.specs.Prelude.{ℕ, List, [], ◌∷◌, Option, None, Some, Bool, true, false, ◌==◌, ◌+◌}
use Rattle.kj_base.specs.declared.outcomes.Outcome.{Outcome}
use Rattle.kj_base.specs.declared.numbers.Limits.{Limits}
use Rattle.kj_base.specs.Commands.{Action}
use Rattle.kj_base.specs.Queue.{Events, no_events}
use Rattle.kj_base.specs.Record.{Item}
pub use Rattle.kj_base.specs.Places.{Spot, Row}
use Rattle.kj_model.specs.Nodes.{Entry}

-- what a name holds; numbers are of nodes
pub data Held : Type 0 where
  Promise : (root : ℕ) → Held
  CellOf : (cell : ℕ) → Held
  -- whether the ask was taken from the loop
  AskCell : (cell : ℕ) → (is_taken : Bool) → Held
  HubOf : (hub : ℕ) → Held
  -- its error step, its tasks in order, and the cell that waits until it is empty
  Group : (error : Option ℕ) → (tasks : List ℕ) → (empty : Option ℕ) → Held
  -- its Wraps in order
  Canceler : (wraps : List ℕ) → Held
  -- none once it has ended
  RequestOf : (node : Option ℕ) → Held

-- a name with what it holds
pub record Named : Type 0 where
  pub name : ℕ
  pub held : Held

-- the tree that a wait awaits, with its name
pub record Awaited : Type 0 where
  pub name : ℕ
  pub root : ℕ

-- an ask for a step of another loop, with the cell of its reply
pub record Asked : Type 0 where
  pub cell : ℕ
  pub target : ℕ
  pub step : ℕ
  pub words : List ℕ

-- a request that ended
pub record Ended : Type 0 where
  pub request : ℕ
  pub outcome : Outcome

-- all that a loop holds
pub record World : Type 0 where
  -- events are numbers of nodes; 0 is the wait
  pub queue : Events
  -- by rising number
  pub nodes : List Entry
  -- by rising name
  pub names : List Named
  -- tasks of the loop's own set, in order
  pub detached : List ℕ
  -- roots without a place: a Task that has left its set and fires, and those that a lack of memory left
  pub left_over : List ℕ
  pub awaited : Option Awaited
  pub asks : List Asked
  pub ended : List Ended
  -- names of ask cells whose promise went before a reply
  pub abandoned : List ℕ
  pub firing : Option ℕ
  pub next : ℕ
  pub spots : List Spot
  pub next_key : ℕ
  pub limits : Limits
  pub stopped : Bool

-- a world with the record so far
pub record State : Type 0 where
  pub world : World
  pub past : List Item

-- what a loop is given: whether a store of so many slots fits more rows, and what the next run of a step does,
-- from the record so far; no action means that the step finds no memory
pub record Setting : Type 0 where
  pub fits : ℕ → List Spot → List Row → Bool
  pub answer : List Item → ℕ → Option Action

-- nothing was built
abbrev pub new_world : Limits → World
new_world limits = record { queue = no_events; nodes = []; names = []; detached = []; left_over = []; awaited = None; asks = []; ended = []; abandoned = []; firing = None; next = 1; spots = []; next_key = 0; limits = limits; stopped = false }

-- nothing was built, run or freed
abbrev pub new_state : Limits → State
new_state limits = record { world = new_world limits; past = [] }

-- no tree has more nodes than there are slots, so none is this deep
abbrev pub depth_of : World → ℕ
depth_of w = w.limits.slots + 1

-- what a name holds
abbrev pub held_at : ℕ → List Named → Option Held
held_at name [] = None
held_at name (x ∷ xs) = held_here (x.name == name) x.held (held_at name xs)
  where
    held_here : Bool → Held → Option Held → Option Held
    held_here true held rest = Some held
    held_here false held rest = rest
