-- The bodies of a script by their steps, and those that are still to come.
use Rattle.std.specs.Prelude.{◌≡◌, ◌≤◌, ◌||◌, ◌&&◌, ◌==◌, nat_lt, ℕ, List, [], ◌∷◌, ◌++◌, Option, None, Some, Bool, true, not, cond, map, filter}
use Rattle.std.specs.List.{AllByRecursion}
use Rattle.kj_base.specs.Record.{Item}
use Rattle.kj_base.specs.Commands.{Action}
use Rattle.kj_model.specs.Log.{Body, passing, scripted}
use Rattle.promise_commands.specs.Commands.{action_of}
use Rattle.promise_commands.specs.Scripts.{body_of}
use Rattle.promise_commands.specs.Script.{Body as BodyCase, body_at}
use Rattle.promise_steps.specs.declared.order.Entry.{Entry}

-- the body of an entry, among those of the script
abbrev pub body_in : List BodyCase → Entry → Body
body_in bodies e = body_of (body_at bodies e.which)

-- the step of an entry
abbrev pub step_of : List BodyCase → Entry → ℕ
step_of bodies e = (body_at bodies e.which).step.0

-- lower steps come first, and of one step the bodies that were taken
abbrev pub Precedes : List BodyCase → Entry → Entry → Type 0
Precedes bodies e f = (step_of bodies e ≤ step_of bodies f) × (step_of bodies e ≡ step_of bodies f → f.taken ≡ true → e.taken ≡ true)

-- each entry precedes all that stand behind it
abbrev pub InOrder : List BodyCase → List Entry → Type 0
InOrder bodies [] = Unit {0}
InOrder bodies (e ∷ order) = AllByRecursion (Precedes bodies e) order × InOrder bodies order

-- whether an entry stands before the next body of a step
abbrev pub is_before : List BodyCase → ℕ → Entry → Bool
is_before bodies step e = nat_lt (step_of bodies e) step || ((step_of bodies e == step) && e.taken)

-- the first of these bodies, where it is one of the step
abbrev pub next_of : List BodyCase → ℕ → List Entry → Option ℕ
next_of bodies step [] = None
next_of bodies step (e ∷ order) = cond (step_of bodies e == step) (Some e.which) None

-- the action of a body, by its place
abbrev pub action_in : List BodyCase → ℕ → Action
action_in bodies which = action_of (body_at bodies which).action

-- what a run with this body gives
abbrev pub given_of : List BodyCase → Option ℕ → Action
given_of bodies None = passing
given_of bodies (Some which) = action_in bodies which

-- the bodies that are still to come
abbrev pub left_of : List BodyCase → List Entry → List Body
left_of bodies order = map (body_in bodies) (filter (λ (e : Entry). not e.taken) order)

-- these bodies answer as the script's do after this record, whatever comes then
abbrev pub IsLeft : List Body → List Body → List Item → Type 0
IsLeft left bodies past = (more : List Item) (step : ℕ) → scripted left more step ≡ scripted bodies (past ++ more) step
