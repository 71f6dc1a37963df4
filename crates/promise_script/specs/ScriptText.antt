-- The text of scripts: what each line means, and the lines of a text.
use Rattle.std.specs.Prelude.{◌≡◌, ℕ, ◌<◌, ◌≤◌, ◌^◌, ◌==◌, ◌%◌, List, [], ◌∷◌, Option, None, Some, Bool, true, cond, codes, decimal, length, map, take}
use Rattle.std.specs.List.{slice_split, onto_first, position, All as EachOf}
use Rattle.kj_base.specs.declared.limits.TheConstants.{MAX_SLOTS, MAX_NAMES}
use Rattle.promise_commands.specs.declared.sources.TheConstants.{MAX_PARTS}
use Rattle.promise_script.specs.declared.meaning.TheConstants.{MAX_WORDS, MAX_TURNS, SLOTS_STEP}
use Rattle.kj_base.specs.declared.numbers.StepId.{StepId}
use Rattle.kj_base.specs.declared.numbers.Name.{Name}
use Rattle.kj_base.specs.declared.numbers.Limits.{Limits}
use Rattle.kj_base.specs.declared.outcomes.Exception.{Exception}
use Rattle.kj_base.specs.declared.endings.Ending.{Ending}
use Rattle.kj_base.specs.declared.endings.Ending.TheVariants.{Value, Throw, Promise, Input}
use Rattle.kj_model.specs.Text.{kind_text}
use Rattle.promise_commands.specs.declared.command.Command.{Command}
use Rattle.promise_commands.specs.declared.command.Command.TheVariants.{Now, Broken, Later, Last, Pair, Then, Chain, Eager, Fork, Branch, Race, All, Fast, Fulfil, Reject, DropCell, Detach, NewSet, Add, OnEmpty, Clear, NewCanceler, Cancel, Drop}
use Rattle.promise_script.specs.declared.meaning.Meaning.{Meaning}
use Rattle.promise_script.specs.declared.meaning.Meaning.TheVariants.{Nothing, Limits as LimitsLine, Do, Turn, Run, Wait, Step, Close}

-- ---- words

abbrev pub name_word : Name → List ℕ
name_word name = decimal name.0

-- a step's number, or `-` for none
abbrev pub step_word : Option StepId → List ℕ
step_word None = codes "-"
step_word (Some step) = decimal step.0

abbrev pub exception_words : Exception → List (List ℕ)
exception_words e = kind_text e.kind ∷ decimal e.code ∷ []

-- the words of a command
abbrev pub command_words : Command → List (List ℕ)
command_words (Now name value) = codes "now" ∷ name_word name ∷ map decimal value
command_words (Broken name exception) = codes "fail" ∷ name_word name ∷ exception_words exception
command_words (Later name) = codes "later" ∷ name_word name ∷ []
command_words (Last name) = codes "last" ∷ name_word name ∷ []
command_words (Pair name cell) = codes "pair" ∷ name_word name ∷ name_word cell ∷ []
command_words (Then name source value error) =
    codes "then" ∷ name_word name ∷ name_word source ∷ step_word value ∷ step_word error ∷ []
command_words (Chain name source value error) =
    codes "chain" ∷ name_word name ∷ name_word source ∷ step_word value ∷ step_word error ∷ []
command_words (Eager name source) = codes "eager" ∷ name_word name ∷ name_word source ∷ []
command_words (Fork hub source) = codes "fork" ∷ name_word hub ∷ name_word source ∷ []
command_words (Branch name hub) = codes "branch" ∷ name_word name ∷ name_word hub ∷ []
command_words (Race name left right) = codes "race" ∷ name_word name ∷ name_word left ∷ name_word right ∷ []
command_words (All name parts) = codes "all" ∷ name_word name ∷ map name_word parts
command_words (Fast name parts) = codes "fast" ∷ name_word name ∷ map name_word parts
command_words (Fulfil cell value) = codes "fulfil" ∷ name_word cell ∷ map decimal value
command_words (Reject cell exception) = codes "reject" ∷ name_word cell ∷ exception_words exception
command_words (DropCell cell) = codes "dropcell" ∷ name_word cell ∷ []
command_words (Detach source) = codes "detach" ∷ name_word source ∷ []
command_words (NewSet group error) = codes "set" ∷ name_word group ∷ step_word error ∷ []
command_words (Add group source) = codes "add" ∷ name_word group ∷ name_word source ∷ []
command_words (OnEmpty name group) = codes "empty" ∷ name_word name ∷ name_word group ∷ []
command_words (Clear group) = codes "clear" ∷ name_word group ∷ []
command_words (NewCanceler canceler) = codes "canceler" ∷ name_word canceler ∷ []
command_words (Cancel canceler) = codes "cancel" ∷ name_word canceler ∷ []
command_words (Drop name) = codes "drop" ∷ name_word name ∷ []

-- the words of a body's last line
abbrev pub ending_words : Ending → List (List ℕ)
ending_words (Value value) = codes "value" ∷ map decimal value
ending_words (Throw exception) = codes "throw" ∷ exception_words exception
ending_words (Promise name) = codes "promise" ∷ name_word name ∷ []
ending_words Input = codes "input" ∷ []

-- the words of a line that means this
abbrev pub meaning_words : Meaning → List (List ℕ)
meaning_words Nothing = []
meaning_words (LimitsLine limits) = codes "limits" ∷ decimal limits.slots ∷ decimal limits.names ∷ []
meaning_words (Do command) = command_words command
meaning_words Turn = codes "turn" ∷ []
meaning_words (Run turns) = codes "run" ∷ decimal turns ∷ []
meaning_words (Wait name turns) = codes "wait" ∷ name_word name ∷ decimal turns ∷ []
meaning_words (Step step) = codes "step" ∷ decimal step.0 ∷ []
meaning_words (Close ending) = ending_words ending

-- ---- which numbers may stand

abbrev pub NameFits : Name → Type 0
NameFits name = name.0 < 2 ^ 32

abbrev pub StepFits : Option StepId → Type 0
StepFits None = Unit {0}
StepFits (Some step) = step.0 < 2 ^ 32

abbrev pub WordsFit : List ℕ → Type 0
WordsFit words = (length words ≤ MAX_WORDS) × EachOf (λ w. w < 2 ^ 64) words

abbrev pub NamesFit : List Name → Type 0
NamesFit names = (length names ≤ MAX_PARTS) × EachOf NameFits names

abbrev pub CommandFits : Command → Type 0
CommandFits (Now name value) = NameFits name × WordsFit value
CommandFits (Broken name exception) = NameFits name × (exception.code < 2 ^ 32)
CommandFits (Later name) = NameFits name
CommandFits (Last name) = NameFits name
CommandFits (Pair name cell) = NameFits name × NameFits cell
CommandFits (Then name source value error) = NameFits name × NameFits source × StepFits value × StepFits error
CommandFits (Chain name source value error) = NameFits name × NameFits source × StepFits value × StepFits error
CommandFits (Eager name source) = NameFits name × NameFits source
CommandFits (Fork hub source) = NameFits hub × NameFits source
CommandFits (Branch name hub) = NameFits name × NameFits hub
CommandFits (Race name left right) = NameFits name × NameFits left × NameFits right
CommandFits (All name parts) = NameFits name × NamesFit parts
CommandFits (Fast name parts) = NameFits name × NamesFit parts
CommandFits (Fulfil cell value) = NameFits cell × WordsFit value
CommandFits (Reject cell exception) = NameFits cell × (exception.code < 2 ^ 32)
CommandFits (DropCell cell) = NameFits cell
CommandFits (Detach source) = NameFits source
CommandFits (NewSet group error) = NameFits group × StepFits error
CommandFits (Add group source) = NameFits group × NameFits source
CommandFits (OnEmpty name group) = NameFits name × NameFits group
CommandFits (Clear group) = NameFits group
CommandFits (NewCanceler canceler) = NameFits canceler
CommandFits (Cancel canceler) = NameFits canceler
CommandFits (Drop name) = NameFits name

abbrev pub EndingFits : Ending → Type 0
EndingFits (Value value) = WordsFit value
EndingFits (Throw exception) = exception.code < 2 ^ 32
EndingFits (Promise name) = NameFits name
EndingFits Input = Unit {0}

-- slots by whole steps, and at least one name
abbrev pub LimitsFit : Limits → Type 0
LimitsFit limits = (SLOTS_STEP ≤ limits.slots) × (limits.slots ≤ MAX_SLOTS) × (limits.slots % SLOTS_STEP ≡ 0) × (1 ≤ limits.names) × (limits.names ≤ MAX_NAMES)

abbrev pub MeaningFits : Meaning → Type 0
MeaningFits Nothing = Unit {0}
MeaningFits (LimitsLine limits) = LimitsFit limits
MeaningFits (Do command) = CommandFits command
MeaningFits Turn = Unit {0}
MeaningFits (Run turns) = turns ≤ MAX_TURNS
MeaningFits (Wait name turns) = NameFits name × (turns ≤ MAX_TURNS)
MeaningFits (Step step) = step.0 < 2 ^ 32
MeaningFits (Close ending) = EndingFits ending

-- ---- what a line means

-- what stands between spaces
abbrev pub words_of : List ℕ → List (List ℕ)
words_of text = slice_split (λ c. c == 32) text

-- a text as lines that end with LF, the last of which may end with the text
abbrev pub lines_of : List ℕ → List (List ℕ)
lines_of [] = []
lines_of (c ∷ cs) = cond (c == 10) ([] ∷ lines_of cs) (onto_first c (lines_of cs))

-- the octets before this place, or all
abbrev pub front_of : Option ℕ → List ℕ → List ℕ
front_of None text = text
front_of (Some place) text = take place text

-- the octets up to the first space, or all
abbrev pub first_word : List ℕ → List ℕ
first_word text = front_of (position (λ c. c == 32) text) text

-- an empty line, or one that begins with `#`
abbrev pub is_remark : List ℕ → Bool
is_remark [] = true
is_remark (c ∷ cs) = c == 35

-- the line's words are those of this meaning
abbrev pub Spells : List ℕ → Meaning → Type 0
Spells text meaning = MeaningFits meaning × (words_of text ≡ meaning_words meaning)

-- a line, its end left out, means this
abbrev pub Means : List ℕ → Meaning → Type 0
Means text Nothing = is_remark text ≡ true
Means text (LimitsLine limits) = Spells text (LimitsLine limits)
Means text (Do command) = Spells text (Do command)
Means text Turn = Spells text Turn
Means text (Run turns) = Spells text (Run turns)
Means text (Wait name turns) = Spells text (Wait name turns)
Means text (Step step) = Spells text (Step step)
Means text (Close ending) = Spells text (Close ending)
