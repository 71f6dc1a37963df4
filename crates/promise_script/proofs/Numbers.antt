-- Numbers and the words that write them.
use Rattle.std.proofs.Common.{◌≡◌, ℕ, ◌<◌, ◌^◌, ◌&&◌, List, None, Some, Bool, true, false, cond, refl, sym, ap, ◌∙◌, arith, nat_lt}
use Rattle.std.specs.Prelude.{decimal, bytes_eq}
use Rattle.std.specs.Str.Parse.{digits_value}
use Rattle.std.proofs.lemmas.Bool.Decides.{nat_tests}
use Rattle.std.proofs.lemmas.Slice.Eq.{bytes_eq-Decides}
use Rattle.std.proofs.lemmas.Fmt.{decimal_is_IsNumeral}
use Rattle.promise_script.specs.Decode.{number_read}

chosen_none : (a b : Bool) (v : ℕ) → (a ≡ true → b ≡ true → ⊥) → cond (a && b) (Some v) None ≡ None
chosen_none true true v h = absurd (h refl refl)
chosen_none true false v h = refl
chosen_none false true v h = refl
chosen_none false false v h = refl

chosen_some : (a b : Bool) (v n : ℕ) → cond (a && b) (Some v) None ≡ Some n → (a ≡ true) × (b ≡ true) × (v ≡ n)
chosen_some true true v n e = (refl, refl, cc (e))
chosen_some true false v n e = absurd (cc (e))
chosen_some false true v n e = absurd (cc (e))
chosen_some false false v n e = absurd (cc (e))

pub lt_test : (m n : ℕ) → m < n → nat_lt m n ≡ true
lt_test m n h = grind (arith, nat_tests)

pub test_lt : (m n : ℕ) → nat_lt m n ≡ true → m < n
test_lt m n h = grind (arith, nat_tests)

-- the word of a number is read as it
pub read_is : (bound n : ℕ) (w : List ℕ) → n < 2 ^ 64 → n < bound → w ≡ decimal n → number_read bound w ≡ Some n
read_is bound n w fits below text =
    let value : digits_value 10 w ≡ n = ap (digits_value 10) text ∙ (decimal_is_IsNumeral n fits).1 in
    let same : bytes_eq w (decimal (digits_value 10 w)) ≡ true = (bytes_eq-Decides w (decimal (digits_value 10 w))).1 (text ∙ ap decimal (sym value)) in
    let small : nat_lt (digits_value 10 w) bound ≡ true = lt_test (digits_value 10 w) bound (omega (arith, value, below)) in
    let test : (bytes_eq w (decimal (digits_value 10 w)) && nat_lt (digits_value 10 w) bound) ≡ true = λ i. same i && small i in
    let found : number_read bound w ≡ Some (digits_value 10 w) = ap (λ (b : Bool). cond b (Some (digits_value 10 w)) None) test in
    found ∙ ap (λ (k : ℕ). Some k) value

-- a word that no number has is read as none
pub read_none : (bound : ℕ) (w : List ℕ) → ((n : ℕ) → n < bound → w ≡ decimal n → ⊥) → number_read bound w ≡ None
read_none bound w none =
    chosen_none (bytes_eq w (decimal (digits_value 10 w))) (nat_lt (digits_value 10 w) bound) (digits_value 10 w)
    (λ same small. none (digits_value 10 w) (test_lt (digits_value 10 w) bound small) ((bytes_eq-Decides w (decimal (digits_value 10 w))).0 same))

-- what is read is a number with this word
pub read_sound : (bound n : ℕ) (w : List ℕ) → number_read bound w ≡ Some n → (n < bound) × (w ≡ decimal n)
read_sound bound n w e =
    let found = chosen_some (bytes_eq w (decimal (digits_value 10 w))) (nat_lt (digits_value 10 w) bound) (digits_value 10 w) n e in
    let small = test_lt (digits_value 10 w) bound found.1 in
    (omega (arith, small, found.2), (bytes_eq-Decides w (decimal (digits_value 10 w))).0 found.0 ∙ ap decimal found.2)
