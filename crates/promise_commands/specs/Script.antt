-- A script: its limits, the bodies of its steps, and its lines outside them.
use Rattle.std.specs.Prelude.{ℕ, List, [], Option, get_or}
use Rattle.kj_base.specs.declared.numbers.StepId.{StepId}
use Rattle.kj_base.specs.declared.numbers.Limits.{Limits}
use Rattle.kj_base.specs.declared.endings.Ending.TheVariants.{Input}
use Rattle.promise_commands.specs.declared.action.Action.{Action}
use Rattle.promise_commands.specs.declared.script.NumberedLine.{NumberedLine}

-- what one run of a step does, as the script says it
pub record Body : Type 0 where
  pub step : StepId
  pub action : Action

-- a script as a loop runs it: the bodies in order, and the lines outside them in order
pub record Script : Type 0 where
  pub limits : Option Limits
  pub bodies : List Body
  pub lines : List NumberedLine

-- no commands, and the input
abbrev pub passing_action : Action
passing_action = record { commands = []; ending = Input }

-- what stands behind the last body
abbrev pub no_body : Body
no_body = record { step = record { 0 = 0 }; action = passing_action }

-- the body at this place, from 0
abbrev pub body_at : List Body → ℕ → Body
body_at bodies which = get_or bodies which no_body
