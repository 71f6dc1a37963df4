-- What the lines that are left of a script's text say: outside bodies, and inside one.
use Rattle.std.specs.Prelude.{ℕ, ◌+◌, List, [], ◌∷◌, ◌++◌, Option, None, Some, Bool, true, false, cond, length, nat_lt}
use Rattle.promise_commands.specs.declared.command.Command.{Command}
use Rattle.promise_commands.specs.declared.action.Action.{Action}
use Rattle.promise_commands.specs.declared.script.Line.{Line}
use Rattle.promise_commands.specs.declared.script.Line.TheVariants.{Do as DoLine, Turn as TurnLine, Run as RunLine, Wait as WaitLine}
use Rattle.promise_commands.specs.declared.script.NumberedLine.{NumberedLine}
use Rattle.promise_commands.specs.Script.{passing_action}
use Rattle.promise_script.specs.declared.bodies.Inside.{Inside}
use Rattle.promise_script.specs.declared.bodies.Inside.TheVariants.{Nothing as NothingInside, Do as DoInside, Close as CloseInside}
use Rattle.promise_commands.specs.declared.action.TheConstants.{MAX_COMMANDS}
use Rattle.promise_script.specs.declared.meaning.Meaning.{Meaning}
use Rattle.promise_script.specs.declared.meaning.Meaning.TheVariants.{Nothing, Limits as LimitsLine, Do, Turn, Run, Wait, Step, Close}
use Rattle.promise_script.specs.Decode.{text_read}

-- ---- outside bodies

-- what a line does that means this, if it does something outside bodies
abbrev pub said_outside : Bool → Option Meaning → Option Line
said_outside true m = None
said_outside false None = None
said_outside false (Some Nothing) = None
said_outside false (Some (LimitsLine limits)) = None
said_outside false (Some (Do command)) = Some (DoLine command)
said_outside false (Some Turn) = Some TurnLine
said_outside false (Some (Run turns)) = Some (RunLine turns)
said_outside false (Some (Wait name turns)) = Some (WaitLine name turns)
said_outside false (Some (Step step)) = None
said_outside false (Some (Close ending)) = None

-- whether the line behind stands inside a body
abbrev pub stays_inside : Bool → Option Meaning → Bool
stays_inside inside None = inside
stays_inside inside (Some Nothing) = inside
stays_inside inside (Some (LimitsLine limits)) = inside
stays_inside inside (Some (Do command)) = inside
stays_inside inside (Some Turn) = inside
stays_inside inside (Some (Run turns)) = inside
stays_inside inside (Some (Wait name turns)) = inside
stays_inside inside (Some (Step step)) = true
stays_inside inside (Some (Close ending)) = false

-- the line that was found, and those behind it
abbrev pub with_found : Option NumberedLine → List NumberedLine → List NumberedLine
with_found None left = left
with_found (Some line) left = line ∷ left

abbrev pub numbered : ℕ → Option Line → Option NumberedLine
numbered n None = None
numbered n (Some line) = Some (record { number = n; line = line })

-- the lines outside bodies among these texts, behind so many lines, inside a body or outside
abbrev pub lines_left : ℕ → Bool → List (List ℕ) → List NumberedLine
lines_left n inside [] = []
lines_left n inside (text ∷ texts) =
    with_found (numbered (n + 1) (said_outside inside (text_read text))) (lines_left (n + 1) (stays_inside inside (text_read text)) texts)

-- ---- inside a body

-- what a line says there that means this
abbrev pub said_inside : Option Meaning → Inside
said_inside None = NothingInside
said_inside (Some Nothing) = NothingInside
said_inside (Some (LimitsLine limits)) = NothingInside
said_inside (Some (Do command)) = DoInside command
said_inside (Some Turn) = NothingInside
said_inside (Some (Run turns)) = NothingInside
said_inside (Some (Wait name turns)) = NothingInside
said_inside (Some (Step step)) = NothingInside
said_inside (Some (Close ending)) = CloseInside ending

-- one command more, where there is room
abbrev pub pushed : List Command → Command → List Command
pushed commands command = cond (nat_lt (length commands) MAX_COMMANDS) (commands ++ command ∷ []) commands

abbrev pub action_behind : List Command → Inside → (List Command → Action) → Action
action_behind commands NothingInside behind = behind commands
action_behind commands (DoInside command) behind = behind (pushed commands command)
action_behind commands (CloseInside ending) behind = record { commands = commands; ending = ending }

-- the action of a body that has these commands so far, from the lines behind
abbrev pub action_from : List Command → List (List ℕ) → Action
action_from commands [] = passing_action
action_from commands (text ∷ texts) = action_behind commands (said_inside (text_read text)) (λ cs. action_from cs texts)
