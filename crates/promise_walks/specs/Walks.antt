-- What walks do, against the definitions.
use Rattle.std.specs.Prelude.{◌≡◌, ℕ, List, ◌++◌, Option, Some, Bool, true, false, option_to_list}
use Rattle.kj_base.specs.Record.{Item}
use Rattle.promise_commands.specs.Telling.{Telling, Hears}
use Rattle.kj_model.specs.World.{World, State}
use Rattle.kj_model.specs.Changes.{silent}
use Rattle.kj_model.specs.Free.{Guard, Holding, Every}
use Rattle.promise_nodes.specs.Shown.{link_number}
use Rattle.promise_names.specs.declared.names.Held.{Held as HeldCase}
use Rattle.promise_names.specs.declared.names.Held.TheVariants.{Canceler as CancelerCase}
use Rattle.promise_names.specs.declared.names.Leaving.{Leaving}
use Rattle.promise_names.specs.Held.{left_world}
use Rattle.promise_walks.specs.declared.guard.Guard.{Guard as GuardCase}
use Rattle.promise_walks.specs.declared.guard.Guard.TheVariants.{Holding as HoldingCase, Every as EveryCase}

-- the guard that each variant is
abbrev pub guard_of : GuardCase → Guard
guard_of (HoldingCase node) = Holding (option_to_list (link_number node))
guard_of EveryCase = Every

-- whether a name is seen to hold a canceler
abbrev pub is_canceler : Option HeldCase → Bool
is_canceler (Some CancelerCase) = true
is_canceler other = false

-- the same, not told
abbrev pub left_as : ℕ → Leaving → State → State
left_as n leaving s = silent (left_world n leaving) s

-- the nodes and the names of one world
abbrev pub Both : (World → Type 0) → (World → Type 0) → World → Type 0
Both Nodes Names w = Nodes w × Names w

-- a state that stands now, with this record, and that comes to this end
pub record Moved {E : Type 0} (New : World → Type 0) (end : E) (after : State → E) (past : List Item) : Type 0 where
  pub state : State
  pub stands : New state.world
  pub past_is : state.past ≡ past
  pub ends : after state ≡ end

-- from each state that stood, one that stands now, with these items more: what is left to do comes to the same end
abbrev pub Moves : (World → Type 0) → (World → Type 0) → (State → State) → (State → State) → List Item → Type 0
Moves Old New before after items = (s : State) → Old s.world → Moved New (before s) after (s.past ++ items)

-- the same, and just these items were told
pub record Does (Old New : World → Type 0) (before after : State → State) (told_before told_after : Telling) : Type 0 where
  pub items : List Item
  pub told : Hears told_before items told_after
  pub moves : Moves Old New before after items
