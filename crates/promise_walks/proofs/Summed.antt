-- The outcomes of a join, one after another, against all of them at once.
use Rattle.std.proofs.Common.{◌≡◌, ◌∙◌, sym, ap, refl, arith, ℕ, List, [], ◌∷◌, ◌++◌, Option, None, Some, Bool, true, false, length, append_assoc}
use Rattle.std.specs.Prelude.{nat_le, option_to_list}
use Rattle.std.proofs.lemmas.Bool.Decides.{nat_tests}
use Rattle.std.proofs.lemmas.List.{append-nil, length-append}
use Rattle.kj_base.specs.declared.outcomes.Exception.{Exception}
use Rattle.kj_base.specs.declared.outcomes.Outcome.{Outcome}
use Rattle.kj_base.specs.declared.outcomes.Outcome.TheVariants.{Value, Broken}
use Rattle.kj_model.specs.Outcomes.{joined, joined_after, joined_words}
use Rattle.kj_model.specs.World.{State}
use Rattle.kj_model.specs.Value.{value_side, rest_valued, all_valued}
use Rattle.promise_walks.specs.declared.sums.Sum.{Sum}
use Rattle.promise_walks.specs.declared.sums.Sum.TheVariants.{Words as WordsSum, Broken as BrokenSum}
use Rattle.promise_walks.specs.Sums.{plus, plus_kept, total, words_or_too_long}
use Rattle.promise_walks.specs.Values.{Valuing}
use Rattle.promise_walks.specs.Climbs.{all_summed}

-- the outcome of a join with these outcomes too
abbrev pub total_after : Sum → List Outcome → Outcome
total_after sum [] = total sum
total_after sum (o ∷ more) = total_after (plus sum o) more

broken_stays : (e : Exception) (more : List Outcome) → total_after (BrokenSum e) more ≡ Broken e
broken_stays e [] = refl
broken_stays e (o ∷ more) = broken_stays e more

words_if : (b : Bool) (words : List ℕ) → joined_words b words ≡ total (words_or_too_long b words)
words_if true words = refl
words_if false words = refl

plus_if : (b c : Bool) (words more : List ℕ) → nat_le (length words) 16 ≡ b → nat_le (length (words ++ more)) 16 ≡ c → plus (words_or_too_long b words) (Value more) ≡ words_or_too_long c (words ++ more)
plus_if true c words more h k = ap (λ (x : Bool). words_or_too_long x (words ++ more)) k
plus_if false true words more h k = absurd (let l = length-append words more in grind (arith, nat_tests))
plus_if false false words more h k = refl

broken_if : (b : Bool) (words : List ℕ) (e : Exception) → plus (words_or_too_long b words) (Broken e) ≡ BrokenSum e
broken_if true words e = refl
broken_if false words e = refl

joined_summed : (words : List ℕ) (more : List Outcome) → joined_after words more ≡ total_after (words_or_too_long (nat_le (length words) 16) words) more
joined_summed words [] = words_if (nat_le (length words) 16) words
joined_summed words (Value xs ∷ more) = joined_summed (words ++ xs) more ∙ ap (λ (z : Sum). total_after z more) (sym (plus_if (nat_le (length words) 16) (nat_le (length (words ++ xs)) 16) words xs refl refl))
joined_summed words (Broken e ∷ more) = sym (ap (λ (z : Sum). total_after z more) (broken_if (nat_le (length words) 16) words e) ∙ broken_stays e more)

-- all outcomes, one after another
pub joined_is : (more : List Outcome) → joined more ≡ total_after (WordsSum []) more
joined_is more = joined_summed [] more

-- an outcome that may be kept
pub total_kept : (sum : Sum) (o : Option Outcome) (more : List Outcome) → total_after sum (option_to_list o ++ more) ≡ total_after (plus_kept sum o) more
total_kept sum None more = refl
total_kept sum (Some o) more = refl

rest_same : (value : Valuing) (os : List Outcome) (sum : Sum) (sides : List ℕ) (s : State) (o : Option Outcome) → ((p : Outcome) → all_valued value (os ++ p ∷ []) sides s ≡ all_summed value (plus sum p) sides s)
    → rest_valued o (λ p. all_valued value (os ++ p ∷ []) sides) s ≡ rest_valued o (λ p. all_summed value (plus sum p) sides) s
rest_same value os sum sides s None h = refl
rest_same value os sum sides s (Some p) h = h p

all_same : (value : Valuing) (os : List Outcome) (sum : Sum) (sides : List ℕ) (s : State) → ((more : List Outcome) → joined (os ++ more) ≡ total_after sum more) → all_valued value os sides s ≡ all_summed value sum sides s
all_same value os sum [] s h = ap (λ (p : Outcome). (s, Some p)) (ap joined (sym (append-nil os)) ∙ h [])
all_same value os sum (side ∷ sides) s h =
    let q = value_side value side s in
    rest_same value os sum sides q.0 q.1 (λ p. all_same value (os ++ p ∷ []) (plus sum p) sides q.0 (λ more. ap joined (append_assoc os (p ∷ []) more) ∙ h (p ∷ more)))

-- a join, with the sum so far
pub all_is_summed : (value : Valuing) (sides : List ℕ) (s : State) → all_valued value [] sides s ≡ all_summed value (WordsSum []) sides s
all_is_summed value sides s = all_same value [] (WordsSum []) sides s joined_is
