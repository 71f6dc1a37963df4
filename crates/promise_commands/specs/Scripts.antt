-- The scripts that the Rust types are.
use Rattle.std.specs.Prelude.{map}
use Rattle.kj_model.specs.Log.{Line, Do, Turn, RunTurns, Wait, Numbered, Body, Script}
use Rattle.promise_commands.specs.Commands.{command_of, action_of}
use Rattle.promise_commands.specs.declared.script.Line.{Line as LineCase}
use Rattle.promise_commands.specs.declared.script.Line.TheVariants.{Do as DoCase, Turn as TurnCase, Run as RunCase, Wait as WaitCase}
use Rattle.promise_commands.specs.declared.script.NumberedLine.{NumberedLine}
use Rattle.promise_commands.specs.Script.{Body as BodyCase, Script as ScriptCase}

-- the line that each variant is
abbrev pub line_of : LineCase → Line
line_of (DoCase command) = Do (command_of command)
line_of TurnCase = Turn
line_of (RunCase turns) = RunTurns turns
line_of (WaitCase name turns) = Wait name.0 turns

-- a line with its number in the text
abbrev pub numbered_of : NumberedLine → Numbered
numbered_of x = record { number = x.number; line = line_of x.line }

-- the body of each Rust body
abbrev pub body_of : BodyCase → Body
body_of b = record { step = b.step.0; action = action_of b.action }

-- the script of each Rust script
abbrev pub script_of : ScriptCase → Script
script_of script = record { limits = script.limits; bodies = map body_of script.bodies; lines = map numbered_of script.lines }
