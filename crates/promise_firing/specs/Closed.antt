-- Trees that go at the closing.
use Rattle.std.specs.Prelude.{ℕ, zero, suc, ◌+◌, Option, None, Some, [], Bool, true, false, cond, reverse}
use Rattle.kj_model.specs.World.{World, State, Held, Group, held_at}
use Rattle.kj_model.specs.Changes.{silent, unnamed}
use Rattle.kj_model.specs.Effects.{hub_unnamed}
use Rattle.kj_model.specs.Free.{Holding, Every, free, each_freed, reference_gone}
use Rattle.kj_model.specs.Calls.{closed_held}
use Rattle.promise_names.specs.declared.names.Held.{Held as HeldCase}
use Rattle.promise_names.specs.declared.names.Held.TheVariants.{Group as GroupCase}

-- a tree goes while no event fires
abbrev pub free_one : ℕ → State → State
free_one n s = free (Holding []) n s

-- the same where there is one
abbrev pub found_freed : Option ℕ → State → State
found_freed None s = s
found_freed (Some n) s = free_one n s

-- a hub goes with its tree, and no other hub
abbrev pub free_hub : ℕ → State → State
free_hub n s = free Every n s

-- a hub has no name now, and goes where it has no branch
abbrev pub hub_name_closed : ℕ → State → State
hub_name_closed hub s = reference_gone (Holding []) free_one hub (silent (hub_unnamed hub) s)

-- what was held goes, where something was
abbrev pub found_closed : Option Held → State → State
found_closed None s = s
found_closed (Some held) s = closed_held held s

-- a name goes, and then what it held
abbrev pub name_closed : ℕ → State → State
name_closed name s = found_closed (held_at name s.world.names) (silent (unnamed name) s)

-- whether a name is seen to hold a set
abbrev pub is_set : Option HeldCase → Bool
is_set (Some (GroupCase error tasks empty)) = true
is_set other = false

-- the tasks of a set go, newest first
abbrev pub tasks_closed : Option Held → State → State
tasks_closed (Some (Group error tasks empty)) s = each_freed free_one (reverse tasks) s
tasks_closed other s = s

-- the same by the name of the set
abbrev pub set_closed : ℕ → State → State
set_closed name s = tasks_closed (held_at name s.world.names) s
