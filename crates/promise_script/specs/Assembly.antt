-- How a reader puts lines together. `ScriptText` says which lines are a script; the proofs tie the two.
use Rattle.std.specs.Prelude.{ℕ, ◌+◌, List, [], ◌∷◌, ◌++◌, Option, None, Some, Bool, true, false, cond, ◌||◌, bytes_eq, codes, length, nat_lt, Result, Ok, Err}
use Rattle.kj_base.specs.declared.numbers.StepId.{StepId}
use Rattle.kj_base.specs.declared.numbers.Limits.{Limits}
use Rattle.kj_base.specs.declared.endings.Ending.{Ending}
use Rattle.promise_commands.specs.declared.command.Command.{Command}
use Rattle.promise_commands.specs.declared.script.Line.{Line}
use Rattle.promise_commands.specs.declared.script.NumberedLine.{NumberedLine}
use Rattle.promise_commands.specs.declared.script.Line.TheVariants.{Do as DoLine, Turn as TurnLine, Run as RunLine, Wait as WaitLine}
use Rattle.promise_commands.specs.Script.{Body}
use Rattle.promise_commands.specs.declared.action.TheConstants.{MAX_COMMANDS}
use Rattle.promise_script.specs.declared.meaning.Meaning.{Meaning}
use Rattle.promise_script.specs.declared.meaning.Meaning.TheVariants.{Nothing, Limits as LimitsLine, Do, Turn, Run, Wait, Step, Close}
use Rattle.promise_commands.specs.Script.{Script}
use Rattle.promise_script.specs.declared.reader.ReadRefused.{ReadRefused}
use Rattle.promise_script.specs.declared.reader.ReadRefused.TheVariants.{Bad, NotBuilt}
use Rattle.promise_script.specs.ScriptText.{first_word}
use Rattle.promise_script.specs.Decode.{and_then, text_read}

-- the body whose end wasn't read yet
pub record Part : Type 0 where
  pub step : StepId
  pub commands : List Command

-- what the lines so far say; `started` is whether one meant something
pub record Reading : Type 0 where
  pub started : Bool
  pub limits : Option Limits
  pub bodies : List Body
  pub lines : List NumberedLine
  pub part : Option Part

-- what may stand outside bodies alone
abbrev pub outside : Option Part → Reading → Option Reading
outside None r = Some r
outside (Some part) r = None

abbrev pub with_part : Option Part → Reading → Reading
with_part part r = record { started = true; limits = r.limits; bodies = r.bodies; lines = r.lines; part = part }

abbrev pub with_line : ℕ → Line → Reading → Reading
with_line n line r =
    record { started = true; limits = r.limits; bodies = r.bodies; lines = r.lines ++ record { number = n; line = line } ∷ []; part = r.part }

abbrev pub limited : Limits → Reading → Option Reading
limited limits r = cond r.started None (Some (record { started = true; limits = Some limits; bodies = r.bodies; lines = r.lines; part = r.part }))

abbrev pub lined : ℕ → Line → Reading → Option Reading
lined n line r = outside r.part (with_line n line r)

abbrev pub with_command : Command → Part → Part
with_command command part = record { step = part.step; commands = part.commands ++ command ∷ [] }

abbrev pub part_commanded : ℕ → Command → Option Part → Reading → Option Reading
part_commanded n command None r = Some (with_line n (DoLine command) r)
part_commanded n command (Some part) r =
    cond (nat_lt (length part.commands) MAX_COMMANDS) (Some (record { started = r.started; limits = r.limits; bodies = r.bodies; lines = r.lines; part = Some (with_command command part) })) None

-- few commands in a body
abbrev pub commanded : ℕ → Command → Reading → Option Reading
commanded n command r = part_commanded n command r.part r

abbrev pub begun : StepId → Reading → Option Reading
begun step r = outside r.part (with_part (Some (record { step = step; commands = [] })) r)

abbrev pub body_closed : Ending → Part → Body
body_closed ending part = record { step = part.step; action = record { commands = part.commands; ending = ending } }

abbrev pub part_closed : Ending → Option Part → Reading → Option Reading
part_closed ending None r = None
part_closed ending (Some part) r =
    Some (record { started = r.started; limits = r.limits; bodies = r.bodies ++ body_closed ending part ∷ []; lines = r.lines; part = None })

abbrev pub closed : Ending → Reading → Option Reading
closed ending r = part_closed ending r.part r

-- the reading after one line more
abbrev pub stood : ℕ → Meaning → Reading → Option Reading
stood n Nothing r = Some r
stood n (LimitsLine limits) r = limited limits r
stood n (Do command) r = commanded n command r
stood n Turn r = lined n TurnLine r
stood n (Run turns) r = lined n (RunLine turns) r
stood n (Wait name turns) r = lined n (WaitLine name turns) r
stood n (Step step) r = begun step r
stood n (Close ending) r = closed ending r

-- the reading before the first line
abbrev pub before_lines : Reading
before_lines = record { started = false; limits = None; bodies = []; lines = []; part = None }

-- the reading after one line more, from its octets
abbrev pub line_stood : ℕ → Reading → List ℕ → Option Reading
line_stood n r text = and_then (λ m. stood n m r) (text_read text)

-- a first word of commands that aren't built yet
abbrev pub unbuilt_command : List ℕ → Bool
unbuilt_command w =
    bytes_eq w (codes "wrap") || bytes_eq w (codes "ask") || bytes_eq w (codes "begin")
    || bytes_eq w (codes "stop") || bytes_eq w (codes "reply")

-- why a line is refused
abbrev pub refused_at : ℕ → List ℕ → ReadRefused
refused_at n text = cond (unbuilt_command (first_word text)) (NotBuilt n) (Bad n)

abbrev pub is_inside : Option Part → Bool
is_inside None = false
is_inside (Some part) = true

-- what was read, after so many lines
abbrev pub ended : ℕ → Reading → Result Script ReadRefused
ended n r = cond (is_inside r.part) (Err (Bad (n + 1))) (Ok (record { limits = r.limits; bodies = r.bodies; lines = r.lines }))

abbrev pub went_on : Option Reading → Result Script ReadRefused → (Reading → Result Script ReadRefused) → Result Script ReadRefused
went_on None refused f = refused
went_on (Some r) refused f = f r

-- what the lines are read as, after so many lines
abbrev pub script_read : ℕ → Reading → List (List ℕ) → Result Script ReadRefused
script_read n r [] = ended n r
script_read n r (text ∷ texts) =
    went_on (line_stood (n + 1) r text) (Err (refused_at (n + 1) text)) (λ q. script_read (n + 1) q texts)
