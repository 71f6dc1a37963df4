-- The text that a script is printed as.
use Rattle.std.specs.Prelude.{ℕ, List, [], ◌∷◌, ◌++◌, map, flat_map}
use Rattle.std.specs.List.{join_with_byte}
use Rattle.kj_base.specs.declared.numbers.StepId.{StepId}
use Rattle.promise_commands.specs.declared.action.Action.{Action}
use Rattle.promise_commands.specs.declared.script.NumberedLine.{NumberedLine}
use Rattle.promise_commands.specs.Script.{Body, Script}
use Rattle.promise_script.specs.declared.meaning.Meaning.{Meaning}
use Rattle.promise_script.specs.declared.meaning.Meaning.TheVariants.{Do, Step, Close}
use Rattle.promise_script.specs.ScriptText.{meaning_words}
use Rattle.promise_script.specs.Scripts.{line_meaning, limits_meanings}

-- words with one space between each two
abbrev pub joined : List (List ℕ) → List ℕ
joined words = join_with_byte 32 words

-- these words as a line, with its end
abbrev pub words_line : List (List ℕ) → List ℕ
words_line words = joined words ++ 10 ∷ []

-- the line that means this
abbrev pub printed_line : Meaning → List ℕ
printed_line meaning = words_line (meaning_words meaning)

-- what the lines of a step's body mean
abbrev pub action_meanings : StepId → Action → List Meaning
action_meanings step action = Step step ∷ (map Do action.commands ++ Close action.ending ∷ [])

abbrev pub body_meanings : Body → List Meaning
body_meanings body = action_meanings body.step body.action

-- what a line outside bodies means
abbrev pub outside_meaning : NumberedLine → Meaning
outside_meaning numbered = line_meaning numbered.line

-- what the lines of a script mean: the limits, if they are said, the bodies, and the lines outside
-- them
abbrev pub script_meanings : Script → List Meaning
script_meanings script =
    limits_meanings script.limits ++ flat_map body_meanings script.bodies
    ++ map outside_meaning script.lines

-- the lines that mean these
abbrev pub printed_lines : List Meaning → List ℕ
printed_lines meanings = flat_map printed_line meanings

-- the one text that a script is printed as
abbrev pub printed : Script → List ℕ
printed script = printed_lines (script_meanings script)
