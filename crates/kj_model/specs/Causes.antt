-- The causes of a refusal in the order in which they are tested.
use Rattle.std.specs.Prelude.{ℕ, List, [], ◌∷◌, Option, None, Some, Bool, true, false, ◌&&◌}
use Rattle.kj_base.specs.Commands.{Command}
use Rattle.kj_model.specs.World.{State, Setting}
use Rattle.kj_model.specs.Uses.{uses_of, first_failing, is_outside, is_unknown, is_wrong, is_taken}
use Rattle.kj_model.specs.Apply.{Refused, Unknown, Taken, Full, Busy, Inside, WrongKind, Stopped, is_busy, is_full, name_of_first}

-- this cause, where it holds
abbrev pub cause_if : Bool → Refused → Option Refused
cause_if true refused = Some refused
cause_if false refused = None

-- this cause of the first name that fails a test
abbrev pub cause_of : (ℕ → Refused) → Option ℕ → Option Refused
cause_of cause None = None
cause_of cause (Some name) = Some (cause name)

-- each cause that holds for a command, all seven tested
abbrev pub causes : Setting → Bool → Command → State → List (Option Refused)
causes setting inside c s =
    cause_if s.world.stopped Stopped ∷
    cause_if (inside && is_outside c) Inside ∷
    cause_of Unknown (first_failing (is_unknown s.world) [] (uses_of c)) ∷
    cause_of WrongKind (first_failing (is_wrong s.world) [] (uses_of c)) ∷
    cause_of Taken (first_failing (is_taken s.world) [] (uses_of c)) ∷
    cause_if (is_busy c s) (Busy (name_of_first (uses_of c))) ∷
    cause_if (is_full setting c s.world) Full ∷ []

-- the first that holds
abbrev pub first_cause : List (Option Refused) → Option Refused
first_cause [] = None
first_cause (None ∷ more) = first_cause more
first_cause (Some refused ∷ more) = Some refused
