-- Numbers as text at the front of bytes.
use Rattle.std.proofs.Common.{◌≡◌, ℕ, ◌+◌, ◌^◌, ◌<◌, ◌≤◌, List, ◌∷◌, ◌++◌, length, get_or, take, sym, ap, ◌∙◌, refl, arith}
use Rattle.std.specs.Prelude.{decimal}
use Rattle.std.specs.List.{prefix_len}
use Rattle.std.specs.Char.{is_ascii_digit}
use Rattle.std.proofs.lemmas.List.{append_cancel_left, length-append, get_or_append_left, get_or_at, take_at}
use Rattle.std.proofs.lemmas.List.Sums.{prefix_len_is, prefix_len_passes}
use Rattle.std.proofs.lemmas.Fmt.{decimal_injective}
use Rattle.kj_base.proofs.Digits.{decimal_is_digits}

-- a number and a LF at the front: the run of digits there is the number's
pub record IsRun (bytes : List ℕ) (n : ℕ) : Type 0 where
  pub count : prefix_len is_ascii_digit bytes ≡ length (decimal n)
  pub inside : length (decimal n) < length bytes
  pub lf : get_or bytes (length (decimal n)) 0 ≡ 10
  pub digits : take (length (decimal n)) bytes ≡ decimal n

pub number_run : (bytes : List ℕ) (n : ℕ) (rest : List ℕ) → n < 2 ^ 64 → bytes ≡ decimal n ++ 10 ∷ rest → IsRun bytes n
number_run bytes n rest fits text =
    let len = length (decimal n) in
    let run = decimal_is_digits (decimal n) n fits refl in
    let long : len + 1 ≤ length bytes = omega (arith, ap length text, length-append (decimal n) (10 ∷ rest)) in
    let digits = λ (k : ℕ) (below : k < len). ap (λ (b : List ℕ). is_ascii_digit (get_or b k 0)) text ∙ ap is_ascii_digit (get_or_append_left (decimal n) (10 ∷ rest) 0 k below) ∙ prefix_len_passes is_ascii_digit (decimal n) k 0 (omega (arith, run, below)) in
    let lf : get_or bytes len 0 ≡ 10 = ap (λ (b : List ℕ). get_or b len 0) text ∙ get_or_at (decimal n) 10 rest 0 len refl in
    record {
      count = prefix_len_is is_ascii_digit bytes len 0 (omega arith) digits (λ _. ap is_ascii_digit lf);
      inside = omega arith;
      lf = lf;
      digits = ap (take len) text ∙ take_at (decimal n) (10 ∷ rest) len refl;
    }

-- one number stands at the front, and one rest follows it
pub number_unique : (m n : ℕ) (x y : List ℕ) → m < 2 ^ 64 → n < 2 ^ 64 → decimal m ++ 10 ∷ x ≡ decimal n ++ 10 ∷ y → (m ≡ n) × (x ≡ y)
number_unique m n x y small fits same =
    let bytes = decimal m ++ 10 ∷ x in
    let one = number_run bytes m x small refl in
    let other = number_run bytes n y fits same in
    let long : length (decimal m) ≡ length (decimal n) = sym one.count ∙ other.count in
    let digits : decimal m ≡ decimal n = sym one.digits ∙ ap (λ (k : ℕ). take k bytes) long ∙ other.digits in
    let rests : 10 ∷ x ≡ 10 ∷ y = append_cancel_left (decimal m) (10 ∷ x) (10 ∷ y) (same ∙ ap (λ (d : List ℕ). d ++ 10 ∷ y) (sym digits)) in
    (decimal_injective m n small fits digits, cc (rests))
