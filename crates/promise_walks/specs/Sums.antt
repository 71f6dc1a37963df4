-- The outcome of a join, one Side after another.
use Rattle.std.specs.Prelude.{ℕ, List, ◌++◌, Option, None, Some, Bool, true, false, length, nat_le}
use Rattle.kj_base.specs.declared.outcomes.Outcome.{Outcome}
use Rattle.kj_base.specs.declared.outcomes.Outcome.TheVariants.{Value, Broken}
use Rattle.kj_model.specs.Outcomes.{too_long}
use Rattle.promise_walks.specs.declared.sums.Sum.{Sum}
use Rattle.promise_walks.specs.declared.sums.Sum.TheVariants.{Words as WordsSum, TooLong, Broken as BrokenSum}

-- words, where they are few enough
abbrev pub words_or_too_long : Bool → List ℕ → Sum
words_or_too_long true words = WordsSum words
words_or_too_long false words = TooLong

-- one outcome more
abbrev pub plus : Sum → Outcome → Sum
plus (WordsSum words) (Value more) = words_or_too_long (nat_le (length (words ++ more)) 16) (words ++ more)
plus (WordsSum words) (Broken exception) = BrokenSum exception
plus TooLong (Value more) = TooLong
plus TooLong (Broken exception) = BrokenSum exception
plus (BrokenSum exception) outcome = BrokenSum exception

-- the outcome of a join
abbrev pub total : Sum → Outcome
total (WordsSum words) = Value words
total TooLong = too_long
total (BrokenSum exception) = Broken exception

-- an outcome more, where there is one
abbrev pub plus_kept : Sum → Option Outcome → Sum
plus_kept sum None = sum
plus_kept sum (Some outcome) = plus sum outcome
