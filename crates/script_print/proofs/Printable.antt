-- The lines that are printed mean what they were printed for.
use Rattle.std.proofs.Common.{◌≡◌, ℕ, ◌<◌, ◌^◌, true, List, [], ◌∷◌, arith, refl, sym, ap, ◌∙◌, subst, map}
use Rattle.std.specs.Prelude.{decimal}
use Rattle.std.specs.List.{AllByRecursion}
use Rattle.std.proofs.lemmas.List.{append_assoc}
use Rattle.std.proofs.lemmas.List.Elements.{recursion_from_All}
use Rattle.kj_base.specs.declared.numbers.Name.{Name}
use Rattle.kj_base.specs.declared.outcomes.Exception.{Exception}
use Rattle.kj_base.specs.declared.endings.Ending.{Ending}
use Rattle.kj_base.specs.declared.endings.Ending.TheVariants.{Value, Throw, Promise, Input}
use Rattle.promise_commands.specs.declared.command.Command.{Command}
use Rattle.promise_commands.specs.declared.command.Command.TheVariants.{Now, Broken, Later, Last, Pair, Then, Chain, Eager, Fork, Branch, Race, All, Fast, Fulfil, Reject, DropCell, Detach, NewSet, Add, OnEmpty, Clear, NewCanceler, Cancel, Drop}
use Rattle.promise_script.specs.declared.meaning.Meaning.{Meaning}
use Rattle.promise_script.specs.declared.meaning.Meaning.TheVariants.{Nothing, Limits as LimitsLine, Do, Turn, Run, Wait, Step, Close}
use Rattle.promise_script.specs.ScriptText.{CommandFits, EndingFits, MeaningFits, Means, NameFits, NamesFit, WordsFit, command_words, ending_words, exception_words, lines_of, meaning_words, name_word}
use Rattle.promise_script.specs.Scripts.{MeanAll}
use Rattle.script_print.specs.Printed.{joined, printed_lines}
use Rattle.script_print.proofs.Unbroken.{AllUnbroken, AreUnbroken, kind_unbroken, line_again, number_unbroken, small_unbroken, step_unbroken, unbroken, words_again}

-- ---- lists of words

all_numbers : (ns : List ℕ) → AllByRecursion (λ n. n < 2 ^ 64) ns → AllUnbroken (map decimal ns)
all_numbers [] fit = tt
all_numbers (n ∷ ns) fit = (number_unbroken n fit.0, all_numbers ns fit.1)

values : (ns : List ℕ) → WordsFit ns → AllUnbroken (map decimal ns)
values ns fit = all_numbers ns (recursion_from_All (λ n. n < 2 ^ 64) ns fit.1)

name : (n : Name) → NameFits n → unbroken (name_word n) ≡ true
name n fit = small_unbroken n.0 fit

all_names : (ns : List Name) → AllByRecursion NameFits ns → AllUnbroken (map name_word ns)
all_names [] fit = tt
all_names (n ∷ ns) fit = (name n fit.0, all_names ns fit.1)

names : (ns : List Name) → NamesFit ns → AllUnbroken (map name_word ns)
names ns fit = all_names ns (recursion_from_All NameFits ns fit.1)

exception : (e : Exception) → e.code < 2 ^ 32 → AllUnbroken (exception_words e)
exception e fit = (kind_unbroken e.kind, (small_unbroken e.code fit, tt))

-- ---- the words of a line

command : (c : Command) → CommandFits c → AreUnbroken (command_words c)
command (Now n value) fit = (refl, (name n fit.0, values value fit.1))
command (Broken n e) fit = (refl, (name n fit.0, exception e fit.1))
command (Later n) fit = (refl, (name n fit, tt))
command (Last n) fit = (refl, (name n fit, tt))
command (Pair n cell) fit = (refl, (name n fit.0, (name cell fit.1, tt)))
command (Then n source value error) fit = (
  refl,
  (
    name n fit.0,
    (name source fit.1, (step_unbroken value fit.2, (step_unbroken error fit.3, tt))),
  ),
)
command (Chain n source value error) fit = (
  refl,
  (
    name n fit.0,
    (name source fit.1, (step_unbroken value fit.2, (step_unbroken error fit.3, tt))),
  ),
)
command (Eager n source) fit = (refl, (name n fit.0, (name source fit.1, tt)))
command (Fork hub source) fit = (refl, (name hub fit.0, (name source fit.1, tt)))
command (Branch n hub) fit = (refl, (name n fit.0, (name hub fit.1, tt)))
command (Race n left right) fit = (refl, (name n fit.0, (name left fit.1, (name right fit.2, tt))))
command (All n parts) fit = (refl, (name n fit.0, names parts fit.1))
command (Fast n parts) fit = (refl, (name n fit.0, names parts fit.1))
command (Fulfil cell value) fit = (refl, (name cell fit.0, values value fit.1))
command (Reject cell e) fit = (refl, (name cell fit.0, exception e fit.1))
command (DropCell cell) fit = (refl, (name cell fit, tt))
command (Detach source) fit = (refl, (name source fit, tt))
command (NewSet group error) fit = (refl, (name group fit.0, (step_unbroken error fit.1, tt)))
command (Add group source) fit = (refl, (name group fit.0, (name source fit.1, tt)))
command (OnEmpty n group) fit = (refl, (name n fit.0, (name group fit.1, tt)))
command (Clear group) fit = (refl, (name group fit, tt))
command (NewCanceler canceler) fit = (refl, (name canceler fit, tt))
command (Cancel canceler) fit = (refl, (name canceler fit, tt))
command (Drop n) fit = (refl, (name n fit, tt))

last : (e : Ending) → EndingFits e → AreUnbroken (ending_words e)
last (Value value) fit = (refl, values value fit)
last (Throw e) fit = (refl, exception e fit)
last (Promise n) fit = (refl, (name n fit, tt))
last Input fit = (refl, tt)

-- a line can say it, and it isn't nothing
abbrev pub IsSaid : Meaning → Type 0
IsSaid Nothing = ⊥
IsSaid (LimitsLine limits) = MeaningFits (LimitsLine limits)
IsSaid (Do c) = MeaningFits (Do c)
IsSaid Turn = MeaningFits Turn
IsSaid (Run turns) = MeaningFits (Run turns)
IsSaid (Wait n turns) = MeaningFits (Wait n turns)
IsSaid (Step step) = MeaningFits (Step step)
IsSaid (Close e) = MeaningFits (Close e)

said_unbroken : (m : Meaning) → IsSaid m → AreUnbroken (meaning_words m)
said_unbroken Nothing said = absurd said
said_unbroken (LimitsLine limits) fit = (
  refl,
  (
    small_unbroken limits.slots (omega (arith, fit.1)),
    (small_unbroken limits.names (omega (arith, fit.4)), tt),
  ),
)
said_unbroken (Do c) fit = command c fit
said_unbroken Turn fit = (refl, tt)
said_unbroken (Run turns) fit = (refl, (small_unbroken turns (omega (arith, fit)), tt))
said_unbroken (Wait n turns) fit =
    (refl, (name n fit.0, (small_unbroken turns (omega (arith, fit.1)), tt)))
said_unbroken (Step step) fit = (refl, (small_unbroken step.0 fit, tt))
said_unbroken (Close e) fit = last e fit

-- ---- the lines

-- the printed words are those of the meaning
said_means : (m : Meaning) → IsSaid m → Means (joined (meaning_words m)) m
said_means Nothing said = absurd said
said_means (LimitsLine limits) fit =
    (fit, words_again (meaning_words (LimitsLine limits)) (said_unbroken (LimitsLine limits) fit))
said_means (Do c) fit = (fit, words_again (meaning_words (Do c)) (said_unbroken (Do c) fit))
said_means Turn fit = (fit, words_again (meaning_words Turn) (said_unbroken Turn fit))
said_means (Run turns) fit =
    (fit, words_again (meaning_words (Run turns)) (said_unbroken (Run turns) fit))
said_means (Wait n turns) fit =
    (fit, words_again (meaning_words (Wait n turns)) (said_unbroken (Wait n turns) fit))
said_means (Step step) fit =
    (fit, words_again (meaning_words (Step step)) (said_unbroken (Step step) fit))
said_means (Close e) fit =
    (fit, words_again (meaning_words (Close e)) (said_unbroken (Close e) fit))

-- the lines of what is printed
pub printed_mean : (ms : List Meaning) → AllByRecursion IsSaid ms
    → MeanAll (lines_of (printed_lines ms)) ms
printed_mean [] said = tt
printed_mean (m ∷ ms) said =
    let words : List (List ℕ) = meaning_words m in
    let cut : lines_of (printed_lines (m ∷ ms)) ≡ joined words ∷ lines_of (printed_lines ms) =
    ap lines_of (append_assoc (joined words) (10 ∷ []) (printed_lines ms))
    ∙ line_again words (printed_lines ms) (said_unbroken m said.0) in
    subst (λ (texts : List (List ℕ)). MeanAll texts (m ∷ ms)) (sym cut)
    (said_means m said.0, printed_mean ms said.1)
