-- What promises end with.
use Rattle.std.specs.Prelude.{ℕ, List, [], ◌∷◌, ◌++◌, length, nat_le, Bool, true, false}
use Rattle.kj_base.specs.declared.outcomes.Kind.TheVariants.{Failed}
use Rattle.kj_base.specs.declared.outcomes.Outcome.{Outcome}
use Rattle.kj_base.specs.declared.outcomes.Outcome.TheVariants.{Value, Broken}

-- an exception of the kind Failed
abbrev pub failed : ℕ → Outcome
failed code = Broken (record { kind = Failed; code = code })

-- a fulfiller was dropped
abbrev pub fulfiller_dropped : Outcome
fulfiller_dropped = failed 1

-- a promise was cancelled
abbrev pub cancelled : Outcome
cancelled = failed 2

-- a join has more than 16 words
abbrev pub too_long : Outcome
too_long = failed 6

-- a step that gives values gave a promise
abbrev pub promise_given : Outcome
promise_given = failed 8

-- a command of a step was refused
abbrev pub command_refused : Outcome
command_refused = failed 9

-- the empty value
abbrev pub void : Outcome
void = Value []

-- whether it is no exception
abbrev pub is_value : Outcome → Bool
is_value (Value words) = true
is_value (Broken exception) = false

-- a join's value, where its words are few enough
abbrev pub joined_words : Bool → List ℕ → Outcome
joined_words true words = Value words
joined_words false words = too_long

-- the words so far, before those of the outcomes that follow; the first exception ends it
abbrev pub joined_after : List ℕ → List Outcome → Outcome
joined_after words [] = joined_words (nat_le (length words) 16) words
joined_after words (Value more ∷ rest) = joined_after (words ++ more) rest
joined_after words (Broken exception ∷ rest) = Broken exception

-- a join's outcome: the first exception in index order, else the values one after another
abbrev pub joined : List Outcome → Outcome
joined outcomes = joined_after [] outcomes
