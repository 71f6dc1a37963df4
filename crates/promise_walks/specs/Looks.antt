-- What the evaluation of a tree sees of a node.
use Rattle.std.specs.Prelude.{◌≡◌, ℕ, Option, None, Some, false, true}
use Rattle.kj_base.specs.Commands.{step_of}
use Rattle.kj_model.specs.Nodes.{Form, Branch as BranchForm, Then as ThenForm, Join, Side, Fired as FiredStage}
use Rattle.kj_model.specs.World.{State, Setting}
use Rattle.kj_model.specs.Value.{value_form, value_side, side_of, then_of, Gave}
use Rattle.kj_model.specs.Outcomes.{void}
use Rattle.promise_walks.specs.declared.looks.Look.{Look}
use Rattle.promise_walks.specs.declared.looks.Look.TheVariants.{Known, Branch, Then, Winner, Kept, Sides}
use Rattle.promise_walks.specs.declared.looks.SideLook.{SideLook}
use Rattle.promise_walks.specs.declared.looks.SideLook.TheVariants.{Known as KnownSide, Fired}
use Rattle.promise_walks.specs.declared.pending.Continuation.{Continuation}
use Rattle.promise_walks.specs.Shapes.{numbers_of}
use Rattle.promise_walks.specs.Values.{Valuing}

-- what the outcome of a node of this form is, whatever the trees below it give, or what it depends on
abbrev pub IsLook : Look → Option Form → Type 0
IsLook (Known outcome) o = (setting : Setting) (value : Valuing) (n : ℕ) (s : State) → value_form setting value n o s ≡ (s, Some outcome)
IsLook (Branch hub) o = o ≡ Some (BranchForm hub.number.0)
IsLook (Then value error tree) o = o ≡ Some (ThenForm (step_of value) (step_of error) (Some tree.number.0))
IsLook (Winner side) o = (setting : Setting) (value : Valuing) (n : ℕ) (s : State) → value_form setting value n o s ≡ value_side value side.number.0 s
IsLook (Kept parts) o = o ≡ Some (Join true (numbers_of parts))
IsLook (Sides parts) o = o ≡ Some (Join false (numbers_of parts))

-- the same of a Side
abbrev pub IsSideLook : SideLook → Option Form → Type 0
IsSideLook (KnownSide outcome) o = (value : Valuing) (side : ℕ) (s : State) → side_of value side o s ≡ (s, Some outcome)
IsSideLook (Fired tree) o = o ≡ Some (Side (FiredStage tree.number.0))

-- what holds of a Then that has its tree
abbrev pub IfThen : Look → Type 0 → Type 0
IfThen (Then value error tree) P = P
IfThen other P = Unit {0}

-- what holds of a Side whose event has fired
abbrev pub IfFired : SideLook → Type 0 → Type 0
IfFired (Fired tree) P = P
IfFired other P = Unit {0}

-- a Then that has its tree, or else the empty value is what it gives
abbrev pub IsContinuation : Option Continuation → Option Form → Type 0
IsContinuation (Some then) o = o ≡ Some (ThenForm (step_of then.value) (step_of then.error) (Some then.tree.number.0))
IsContinuation None o = (setting : Setting) (value : Valuing) (n : ℕ) (s : State) → then_of setting value true n o s ≡ (s, Some (Gave void))
