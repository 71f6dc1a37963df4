-- Which scripts can be read again as they were printed, and as what.
use Rattle.std.specs.Prelude.{◌≡◌, ◌<◌, ◌≤◌, ◌^◌, map, length, IfSome, Result, Ok, Err}
use Rattle.std.specs.List.{AllByRecursion}
use Rattle.promise_commands.specs.declared.action.TheConstants.{MAX_COMMANDS}
use Rattle.promise_commands.specs.declared.script.Line.{Line}
use Rattle.promise_commands.specs.declared.script.NumberedLine.{NumberedLine}
use Rattle.promise_commands.specs.Script.{Body, Script}
use Rattle.promise_script.specs.declared.reader.ReadRefused.{ReadRefused}
use Rattle.promise_script.specs.declared.reader.ReadRefused.TheVariants.{Bad, NotBuilt, NoMemory}
use Rattle.promise_script.specs.ScriptText.{CommandFits, EndingFits, LimitsFit, MeaningFits}
use Rattle.script_print.specs.Printed.{outside_meaning}

-- ---- what can be printed

-- a body's numbers are those that its lines may have, and its commands are few
pub record BodyFits (body : Body) : Type 0 where
  pub step : body.step.0 < 2 ^ 32
  pub few : length body.action.commands ≤ MAX_COMMANDS
  pub commands : AllByRecursion CommandFits body.action.commands
  pub ending : EndingFits body.action.ending

-- the numbers of a line outside bodies are those that it may have
abbrev pub OutsideFits : NumberedLine → Type 0
OutsideFits numbered = MeaningFits (outside_meaning numbered)

-- the limits, the bodies and the lines of a script are such as a text can say
pub record IsPrintable (script : Script) : Type 0 where
  pub limits : IfSome script.limits LimitsFit
  pub bodies : AllByRecursion BodyFits script.bodies
  pub lines : AllByRecursion OutsideFits script.lines

-- ---- what is read again

abbrev pub line_in : NumberedLine → Line
line_in numbered = numbered.line

-- the two scripts are the same but for the numbers of their lines
pub record IsSame (one other : Script) : Type 0 where
  pub limits : one.limits ≡ other.limits
  pub bodies : one.bodies ≡ other.bodies
  pub lines : map line_in one.lines ≡ map line_in other.lines

-- this script was read, but for the numbers of its lines; want of memory says nothing
abbrev pub IsReadAgain : Script → Result Script ReadRefused → Type 0
IsReadAgain script (Ok again) = IsSame script again
IsReadAgain script (Err (Bad line)) = ⊥
IsReadAgain script (Err (NotBuilt line)) = ⊥
IsReadAgain script (Err NoMemory) = Unit {0}
