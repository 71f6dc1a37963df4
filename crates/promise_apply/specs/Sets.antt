-- The tasks of sets.
use Rattle.std.specs.Prelude.{◌≡◌, ℕ, [], Option, None, Some, false, length, reverse}
use Rattle.kj_model.specs.World.{World, State, Held, Group}
use Rattle.kj_model.specs.Free.{each_freed, free, usual}
use Rattle.kj_model.specs.Effects.{cleared}
use Rattle.kj_model.specs.Uses.{is_group}
use Rattle.promise_nodes.specs.Members.{lists_in}
use Rattle.promise_nodes.specs.Shown.{link_number}
use Rattle.promise_apply.specs.declared.sets.Tasks.{Tasks}

-- a set that has so many tasks, and this cell
abbrev pub IsTasks : Tasks → Option Held → Type 0
IsTasks t (Some (Group error tasks empty)) =
    (length tasks ≡ t.count) × (empty ≡ link_number t.empty)
IsTasks t other = ⊥

-- the tasks are seen just where it is a set
abbrev pub SeesTasks : Option Tasks → Option Held → Type 0
SeesTasks (Some t) held = IsTasks t held
SeesTasks None held = is_group held ≡ false

-- the tasks of a set go, the newest first, while an event fires; they are still in it
abbrev pub tasks_freed : ℕ → State → State
tasks_freed group s = each_freed (free (usual s.world)) (reverse (lists_in s.world group)) s

-- the same, and then the set is empty
abbrev pub set_cleared : ℕ → State → State
set_cleared group s = cleared (usual s.world) group s

-- a world stands, and this set has no tasks in it
abbrev pub IsCleared : (World → Type 0) → ℕ → World → Type 0
IsCleared Now group w = Now w × (lists_in w group ≡ [])
