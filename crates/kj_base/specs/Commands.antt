-- The commands of scripts and steps, as data.
use Rattle.std.specs.Prelude.{ℕ, List, Option, None, Some}
use Rattle.kj_base.specs.declared.outcomes.Exception.{Exception}
use Rattle.kj_base.specs.declared.outcomes.Outcome.{Outcome}
use Rattle.kj_base.specs.declared.endings.Ending.{Ending}
use Rattle.kj_base.specs.declared.numbers.StepId.{StepId}

-- names and steps are numbers
pub data Command : Type 0 where
  Now : (name : ℕ) → (words : List ℕ) → Command
  Broken : (name : ℕ) → (exception : Exception) → Command
  Later : (name : ℕ) → Command
  Last : (name : ℕ) → Command
  Pair : (name cell : ℕ) → Command
  Then : (name source : ℕ) → (value error : Option ℕ) → Command
  Chain : (name source : ℕ) → (value error : Option ℕ) → Command
  Eager : (name source : ℕ) → Command
  Fork : (hub source : ℕ) → Command
  Branch : (name hub : ℕ) → Command
  Race : (name left right : ℕ) → Command
  All : (name : ℕ) → (sources : List ℕ) → Command
  Fast : (name : ℕ) → (sources : List ℕ) → Command
  Fulfil : (cell : ℕ) → (words : List ℕ) → Command
  Reject : (cell : ℕ) → (exception : Exception) → Command
  DropCell : (cell : ℕ) → Command
  NewSet : (group : ℕ) → (error : Option ℕ) → Command
  Add : (group source : ℕ) → Command
  Clear : (group : ℕ) → Command
  OnEmpty : (name group : ℕ) → Command
  NewCanceler : (canceler : ℕ) → Command
  Wrap : (name canceler source : ℕ) → Command
  Cancel : (canceler : ℕ) → Command
  Detach : (source : ℕ) → Command
  Drop : (name : ℕ) → Command
  Ask : (name cell target step : ℕ) → (words : List ℕ) → Command
  Begin : (request step : ℕ) → (words : List ℕ) → Command
  Stop : (request : ℕ) → Command
  Reply : (cell : ℕ) → (outcome : Outcome) → Command

-- what one run of a step does: its commands in order, and then how it ends
pub record Action : Type 0 where
  pub commands : List Command
  pub ending : Ending

-- the number of a step that may be absent
abbrev pub step_of : Option StepId → Option ℕ
step_of None = None
step_of (Some step) = Some step.0
