-- Digits and the number that they write.
use Rattle.std.proofs.Common.{◌≡◌, ℕ, zero, suc, ◌+◌, ◌-◌, ◌^◌, ◌<◌, ◌≤◌, min, true, List, [], ◌∷◌, length, get_or, ap, sym, ◌∙◌, arith}
use Rattle.std.specs.Prelude.{decimal}
use Rattle.std.specs.List.{prefix_len}
use Rattle.std.specs.Char.{is_ascii_digit, digit_value}
use Rattle.std.specs.Str.Parse.{digits_value, AllDigits}
use Rattle.std.proofs.lemmas.List.Sums.{prefix_len_is}
use Rattle.std.proofs.lemmas.Bool.Decides.{nat_tests}
use Rattle.std.proofs.lemmas.Str.{digit_value_digit}
use Rattle.std.proofs.lemmas.Str.Parse.{digit_from_value}
use Rattle.std.proofs.lemmas.Fmt.{decimal_is_IsNumeral}

-- a digit's octet is its value and 48
pub digit_at : (c : ℕ) → is_ascii_digit c ≡ true → digit_value c + 48 ≡ c
digit_at c h = digit_value_digit c (grind (arith, nat_tests))

digit_test : (c : ℕ) → 48 ≤ c → c ≤ 57 → is_ascii_digit c ≡ true
digit_test c low high = grind (arith, nat_tests)

each_digit : (ds : List ℕ) (k : ℕ) → AllDigits 10 ds → k < length ds → is_ascii_digit (get_or ds k 0) ≡ true
each_digit [] k all inside = absurd (omega arith)
each_digit (d ∷ ds) zero all inside = let range = digit_from_value d all.0 in digit_test d range.0 range.1
each_digit (d ∷ ds) (suc k) all inside = each_digit ds k all.1 (omega arith)

-- a decimal text is digits to its end
pub decimal_is_digits : (word : List ℕ) (n : ℕ) → n < 2 ^ 64 → word ≡ decimal n → prefix_len is_ascii_digit word ≡ length word
decimal_is_digits word n fits text =
    let numeral = decimal_is_IsNumeral n fits in
    let same : length word ≡ length (decimal n) = ap length text in
    let digits = λ (k : ℕ) (below : k < length word). ap (λ (b : List ℕ). is_ascii_digit (get_or b k 0)) text ∙ each_digit (decimal n) k numeral.0.1 (omega (arith, same)) in
    prefix_len_is is_ascii_digit word (length word) 0 (omega arith) digits (λ more. absurd (omega arith))

-- the clipped value of a decimal text is its number
pub value_is : (n v : ℕ) (digits : List ℕ) → n < 2 ^ 64 → digits ≡ decimal n → v ≡ min (digits_value 10 digits) (2 ^ 64 - 1) → v ≡ n
value_is n v digits fits same value = omega (arith, value, ap (digits_value 10) same, (decimal_is_IsNumeral n fits).1)

-- two numbers with one text are the same
pub decimal_same : (m n : ℕ) → m < 2 ^ 64 → n < 2 ^ 64 → decimal m ≡ decimal n → m ≡ n
decimal_same m n below under same = sym (decimal_is_IsNumeral m below).1 ∙ ap (digits_value 10) same ∙ (decimal_is_IsNumeral n under).1
