-- The text of scripts: how lines make a script, and which line of a text is at fault.
use Rattle.std.specs.Prelude.{◌≡◌, ℕ, ◌+◌, ◌≤◌, ◌⊎◌, List, [], ◌∷◌, ◌++◌, Option, None, Some, Bool, true, false, cond, codes, bytes_eq, length, map, flat_map, replicate, IfSome, Result, Ok, Err}
use Rattle.std.specs.List.{All as EachOf}
use Rattle.kj_base.specs.declared.numbers.StepId.{StepId}
use Rattle.kj_base.specs.declared.numbers.Limits.{Limits}
use Rattle.kj_base.specs.declared.endings.Ending.{Ending}
use Rattle.promise_commands.specs.declared.command.Command.{Command}
use Rattle.promise_commands.specs.declared.script.Line.{Line}
use Rattle.promise_commands.specs.declared.script.Line.TheVariants.{Do as DoLine, Turn as TurnLine, Run as RunLine, Wait as WaitLine}
use Rattle.promise_commands.specs.declared.script.NumberedLine.{NumberedLine}
use Rattle.promise_commands.specs.Script.{Body}
use Rattle.promise_commands.specs.Script.{Script}
use Rattle.promise_commands.specs.declared.action.TheConstants.{MAX_COMMANDS}
use Rattle.promise_script.specs.declared.meaning.TheConstants.{MAX_TURNS}
use Rattle.promise_script.specs.declared.meaning.Meaning.{Meaning}
use Rattle.promise_script.specs.declared.meaning.Meaning.TheVariants.{Nothing, Limits as LimitsLine, Do, Turn, Run, Wait, Step, Close}
use Rattle.promise_script.specs.declared.reader.ReadRefused.{ReadRefused}
use Rattle.promise_script.specs.declared.reader.ReadRefused.TheVariants.{Bad, NotBuilt, NoMemory}
use Rattle.promise_script.specs.ScriptText.{LimitsFit, Means, lines_of, first_word}

-- ---- the pieces of a script

-- a line that means nothing; a line outside bodies; or a body: its step, its lines (None means nothing), and how it ends
pub data Piece : Type 0 where
  Remark : Piece
  Stands : (line : Line) → Piece
  Bodied : (step : StepId) → (inside : List (Option Command)) → (ending : Ending) → Piece

-- what a line outside bodies means
abbrev pub line_meaning : Line → Meaning
line_meaning (DoLine command) = Do command
line_meaning TurnLine = Turn
line_meaning (RunLine turns) = Run turns
line_meaning (WaitLine name turns) = Wait name turns

-- what a line inside a body means
abbrev pub inside_meaning : Option Command → Meaning
inside_meaning None = Nothing
inside_meaning (Some command) = Do command

-- what the lines of a body behind its first mean
abbrev pub body_meanings : List (Option Command) → Ending → List Meaning
body_meanings inside ending = map inside_meaning inside ++ Close ending ∷ []

-- what the lines of a piece mean
abbrev pub piece_meanings : Piece → List Meaning
piece_meanings Remark = Nothing ∷ []
piece_meanings (Stands line) = line_meaning line ∷ []
piece_meanings (Bodied step inside ending) = Step step ∷ body_meanings inside ending

-- what the line with the limits means, if there is one
abbrev pub limits_meanings : Option Limits → List Meaning
limits_meanings None = []
limits_meanings (Some limits) = LimitsLine limits ∷ []

-- the commands of a body
abbrev pub commands_of : List (Option Command) → List Command
commands_of [] = []
commands_of (None ∷ inside) = commands_of inside
commands_of (Some command ∷ inside) = command ∷ commands_of inside

-- the body of a step with these commands and this ending
abbrev pub body_with : StepId → List Command → Ending → Body
body_with step commands ending = record { step = step; action = record { commands = commands; ending = ending } }

-- the body that a piece is, if it is one
abbrev pub piece_bodies : Piece → List Body
piece_bodies Remark = []
piece_bodies (Stands line) = []
piece_bodies (Bodied step inside ending) = body_with step (commands_of inside) ending ∷ []

-- the line outside bodies that a piece is, if it is one, with its number
abbrev pub piece_lines : ℕ → Piece → List NumberedLine
piece_lines n Remark = []
piece_lines n (Stands line) = record { number = n; line = line } ∷ []
piece_lines n (Bodied step inside ending) = []

-- the lines outside bodies, where the first line of the first piece has this number
abbrev pub lines_in : ℕ → List Piece → List NumberedLine
lines_in n [] = []
lines_in n (piece ∷ pieces) = piece_lines n piece ++ lines_in (n + length (piece_meanings piece)) pieces

-- a body has few commands
abbrev pub PieceFits : Piece → Type 0
PieceFits Remark = Unit {0}
PieceFits (Stands line) = Unit {0}
PieceFits (Bodied step inside ending) = length (commands_of inside) ≤ MAX_COMMANDS

abbrev pub PiecesFit : List Piece → Type 0
PiecesFit [] = Unit {0}
PiecesFit (piece ∷ pieces) = PieceFits piece × PiecesFit pieces

-- ---- scripts

-- each of the lines has its meaning
abbrev pub MeanAll : List (List ℕ) → List Meaning → Type 0
MeanAll [] [] = Unit {0}
MeanAll [] (meaning ∷ meanings) = ⊥
MeanAll (line ∷ lines) [] = ⊥
MeanAll (line ∷ lines) (meaning ∷ meanings) = Means line meaning × MeanAll lines meanings

-- lines that mean nothing, the limits if they are said, and then the pieces: of these lines the script consists
pub record IsScript (lines : List (List ℕ)) (script : Script) : Type 0 where
  pub remarks : ℕ
  pub pieces : List Piece
  pub fit : PiecesFit pieces
  pub mean : MeanAll lines (replicate remarks Nothing ++ limits_meanings script.limits ++ flat_map piece_meanings pieces)
  pub bodies : script.bodies ≡ flat_map piece_bodies pieces
  pub outside : script.lines ≡ lines_in (remarks + length (limits_meanings script.limits) + 1) pieces

-- the octets are the text of this script
abbrev pub IsScriptText : List ℕ → Script → Type 0
IsScriptText text script = IsScript (lines_of text) script

-- a line outside bodies has few turns
abbrev pub LineFits : Line → Type 0
LineFits (DoLine command) = Unit {0}
LineFits TurnLine = Unit {0}
LineFits (RunLine turns) = turns ≤ MAX_TURNS
LineFits (WaitLine name turns) = turns ≤ MAX_TURNS

-- the limits are those that a loop may have, and no line has more turns than one may have
pub record ScriptFits (script : Script) : Type 0 where
  pub limits : IfSome script.limits LimitsFit
  pub lines : EachOf (λ (x : NumberedLine). LineFits x.line) script.lines

-- ---- faults

-- there is a script that begins with these lines
pub record BeginsScript (lines : List (List ℕ)) : Type 0 where
  pub behind : List (List ℕ)
  pub script : Script
  pub is : IsScript (lines ++ behind) script

-- of these lines the one with this number, from 1, is the first that no script has behind those before it
pub record IsFaulty (lines : List (List ℕ)) (number : ℕ) (before : List (List ℕ)) (line : List ℕ) : Type 0 where
  pub behind : List (List ℕ)
  pub whole : lines ≡ before ++ line ∷ behind
  pub place : number ≡ length before + 1
  pub begins : BeginsScript before
  pub stops : BeginsScript (before ++ line ∷ []) → ⊥

-- a script begins with all lines, but they are none, so the line behind them is missing
pub record IsUnclosed (lines : List (List ℕ)) (number : ℕ) : Type 0 where
  pub place : number ≡ length lines + 1
  pub begins : BeginsScript lines
  pub none : (script : Script) → IsScript lines script → ⊥

-- the first words of commands that aren't built yet
abbrev pub unbuilt_commands : List (List ℕ)
unbuilt_commands =
    codes "wrap" ∷ codes "ask" ∷ codes "begin" ∷ codes "stop" ∷ codes "reply" ∷ []

-- whether the word is one of these
abbrev pub is_among : List (List ℕ) → List ℕ → Bool
is_among [] word = false
is_among (w ∷ ws) word = cond (bytes_eq word w) true (is_among ws word)

-- a line that begins a command that isn't built yet
abbrev pub IsUnbuilt : List ℕ → Type 0
IsUnbuilt line = is_among unbuilt_commands (first_word line) ≡ true

-- a line at fault whose first word isn't one that is to be built; or a body isn't closed
abbrev pub IsBadLine : List ℕ → ℕ → Type 0
IsBadLine text number =
    ((before : List (List ℕ)) × (line : List ℕ) × IsFaulty (lines_of text) number before line × (IsUnbuilt line → ⊥))
    ⊎ IsUnclosed (lines_of text) number

-- a line at fault whose first word is one that is to be built
abbrev pub IsNotBuiltLine : List ℕ → ℕ → Type 0
IsNotBuiltLine text number = (before : List (List ℕ)) × (line : List ℕ) × IsFaulty (lines_of text) number before line × IsUnbuilt line

-- what the octets are read as: a script, or the line at fault; want of memory says nothing of them
abbrev pub IsReadAs : List ℕ → Result Script ReadRefused → Type 0
IsReadAs text (Ok script) = IsScriptText text script
IsReadAs text (Err (Bad line)) = IsBadLine text line
IsReadAs text (Err (NotBuilt line)) = IsNotBuiltLine text line
IsReadAs text (Err NoMemory) = Unit {0}
