-- Words without spaces and ends of lines: what is joined of them is cut into them again.
use Rattle.std.proofs.Common.{◌≡◌, ℕ, ◌<◌, ◌^◌, ◌==◌, ◌&&◌, List, [], ◌∷◌, ◌++◌, Option, None, Some, Bool, true, false, cond, nat_lt, refl, ap, ◌∙◌, arith}
use Rattle.std.specs.Prelude.{decimal}
use Rattle.std.specs.List.{onto_first, list_all}
use Rattle.std.specs.Str.Parse.{AllDigits}
use Rattle.std.proofs.lemmas.Bool.Decides.{nat_tests}
use Rattle.std.proofs.lemmas.Fmt.{decimal_is_IsNumeral}
use Rattle.std.proofs.lemmas.List.Folds.{list_all-append}
use Rattle.std.proofs.lemmas.Str.Parse.{digit_from_value}
use Rattle.kj_base.specs.declared.numbers.StepId.{StepId}
use Rattle.kj_base.specs.declared.outcomes.Kind.{Kind}
use Rattle.kj_base.specs.declared.outcomes.Kind.TheVariants.{Failed, Overloaded, Disconnected, Unimplemented}
use Rattle.kj_model.specs.Text.{kind_text}
use Rattle.promise_script.specs.ScriptText.{step_word, StepFits, words_of, lines_of}
use Rattle.script_print.specs.Printed.{joined}

-- each octet is above this
abbrev pub above : ℕ → List ℕ → Bool
above least w = list_all (nat_lt least) w

-- no space, and no end of a line
abbrev pub unbroken : List ℕ → Bool
unbroken w = above 32 w

abbrev pub AllUnbroken : List (List ℕ) → Type 0
AllUnbroken [] = Unit {0}
AllUnbroken (w ∷ ws) = (unbroken w ≡ true) × AllUnbroken ws

-- there are words, and each is unbroken
abbrev pub AreUnbroken : List (List ℕ) → Type 0
AreUnbroken [] = ⊥
AreUnbroken (w ∷ ws) = (unbroken w ≡ true) × AllUnbroken ws

two_tests : (a b : Bool) → (a && b) ≡ true → (a ≡ true) × (b ≡ true)
two_tests true true e = (refl, refl)
two_tests true false e = absurd (cc (e))
two_tests false true e = absurd (cc (e))
two_tests false false e = absurd (cc (e))

-- ---- numbers

test_above : (m n : ℕ) → m < n → nat_lt m n ≡ true
test_above m n h = grind (arith, nat_tests)

digits_unbroken : (ds : List ℕ) → AllDigits 10 ds → unbroken ds ≡ true
digits_unbroken [] all = refl
digits_unbroken (d ∷ ds) all =
    let range = digit_from_value d all.0 in
    let first = test_above 32 d (omega (arith, range.0)) in
    let rest = digits_unbroken ds all.1 in
    λ i. first i && rest i

pub number_unbroken : (n : ℕ) → n < 2 ^ 64 → unbroken (decimal n) ≡ true
number_unbroken n fits = digits_unbroken (decimal n) (decimal_is_IsNumeral n fits).0.1

pub small_unbroken : (n : ℕ) → n < 2 ^ 32 → unbroken (decimal n) ≡ true
small_unbroken n fits = number_unbroken n (omega (arith, fits))

pub step_unbroken : (step : Option StepId) → StepFits step → unbroken (step_word step) ≡ true
step_unbroken None fits = refl
step_unbroken (Some step) fits = small_unbroken step.0 fits

pub kind_unbroken : (kind : Kind) → unbroken (kind_text kind) ≡ true
kind_unbroken Failed = refl
kind_unbroken Overloaded = refl
kind_unbroken Disconnected = refl
kind_unbroken Unimplemented = refl

-- ---- words of a line

abbrev parted : ℕ → List (List ℕ) → Bool → List (List ℕ)
parted c parts b = cond b ([] ∷ parts) (onto_first c parts)

no_space : (c : ℕ) → nat_lt 32 c ≡ true → (c == 32) ≡ false
no_space c h = grind (arith, nat_tests)

-- a word alone
one_word : (w : List ℕ) → unbroken w ≡ true → words_of w ≡ w ∷ []
one_word [] all = refl
one_word (c ∷ cs) all =
    let here = two_tests (nat_lt 32 c) (unbroken cs) all in
    ap (parted c (words_of cs)) (no_space c here.0) ∙ ap (onto_first c) (one_word cs here.1)

-- a word before a space
first_word : (w rest : List ℕ) → unbroken w ≡ true → words_of (w ++ (32 ∷ rest)) ≡ w ∷ words_of rest
first_word [] rest all = refl
first_word (c ∷ cs) rest all =
    let here = two_tests (nat_lt 32 c) (unbroken cs) all in
    ap (parted c (words_of (cs ++ (32 ∷ rest)))) (no_space c here.0)
    ∙ ap (onto_first c) (first_word cs rest here.1)

-- what is joined of words is cut into them
all_words : (w : List ℕ) (ws : List (List ℕ)) → unbroken w ≡ true → AllUnbroken ws
    → words_of (joined (w ∷ ws)) ≡ w ∷ ws
all_words w [] here all = one_word w here
all_words w (x ∷ xs) here all = first_word w (joined (x ∷ xs)) here
    ∙ ap (λ (ws : List (List ℕ)). w ∷ ws) (all_words x xs all.0 all.1)

pub words_again : (ws : List (List ℕ)) → AreUnbroken ws → words_of (joined ws) ≡ ws
words_again [] are = absurd are
words_again (w ∷ ws) are = all_words w ws are.0 are.1

-- ---- lines of a text

lower : (c : ℕ) → nat_lt 32 c ≡ true → nat_lt 31 c ≡ true
lower c h = grind (arith, nat_tests)

above_lower : (w : List ℕ) → above 32 w ≡ true → above 31 w ≡ true
above_lower [] all = refl
above_lower (c ∷ cs) all =
    let here = two_tests (nat_lt 32 c) (above 32 cs) all in
    let first = lower c here.0 in
    let rest = above_lower cs here.1 in
    λ i. first i && rest i

-- no end of a line stands in it
joined_above : (w : List ℕ) (ws : List (List ℕ)) → unbroken w ≡ true → AllUnbroken ws
    → above 31 (joined (w ∷ ws)) ≡ true
joined_above w [] here all = above_lower w here
joined_above w (x ∷ xs) here all =
    let first = above_lower w here in
    let rest = joined_above x xs all.0 all.1 in
    list_all-append (nat_lt 31) w (32 ∷ joined (x ∷ xs)) ∙ (λ i. first i && rest i)

no_end : (c : ℕ) → nat_lt 31 c ≡ true → (c == 10) ≡ false
no_end c h = grind (arith, nat_tests)

first_line : (w rest : List ℕ) → above 31 w ≡ true → lines_of (w ++ (10 ∷ rest)) ≡ w ∷ lines_of rest
first_line [] rest all = refl
first_line (c ∷ cs) rest all =
    let here = two_tests (nat_lt 31 c) (above 31 cs) all in
    ap (parted c (lines_of (cs ++ (10 ∷ rest)))) (no_end c here.0)
    ∙ ap (onto_first c) (first_line cs rest here.1)

-- joined words, behind which a line ends, are the first line
pub line_again : (ws : List (List ℕ)) (rest : List ℕ) → AreUnbroken ws
    → lines_of (joined ws ++ (10 ∷ rest)) ≡ joined ws ∷ lines_of rest
line_again [] rest are = absurd are
line_again (w ∷ ws) rest are = first_line (joined (w ∷ ws)) rest (joined_above w ws are.0 are.1)
