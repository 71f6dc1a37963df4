-- What one turn of a target that finishes at once adds to its own entries.
use Rattle.std.specs.Prelude.{◌≡◌, ◌⊎◌, ℕ, Bool, true, false, List, [], ◌∷◌, ◌++◌}
use Rattle.kj_base.specs.declared.numbers.StepId.{StepId}
use Rattle.kj_base.specs.declared.outcomes.Outcome.TheVariants.{Value}
use Rattle.executor_core.specs.declared.entry.Entry.{Entry}
use Rattle.executor_core.specs.declared.call.Call.TheVariants.{Next, Finish}
use Rattle.executor_core.specs.declared.call.Reply.TheVariants.{Start, Stop, Done}
use Rattle.executor_core.specs.Histories.{entry}

-- nothing; or that a request is to end; or the start of a request, and its finish with the words that it came with
abbrev pub IsTurn : List Entry → List Entry → Bool → Type 0
IsTurn mine more worked = ((worked ≡ false) × (more ≡ mine))
    ⊎ ((worked ≡ true) × ((r : ℕ) × (more ≡ mine ++ entry 0 Next (Stop r) ∷ [])))
    ⊎ ((worked ≡ true) × ((r : ℕ) × (step : StepId) × (words : List ℕ) × (more ≡ mine ++ entry 0 Next (Start r step words) ∷ entry 0 (Finish r (Value words)) Done ∷ [])))
