-- A text is its first line and the lines behind.
use Rattle.std.proofs.Common.{◌≡◌, ℕ, zero, suc, ◌<◌, ◌≤◌, ◌+◌, ◌==◌, List, [], ◌∷◌, Bool, true, false, cond, None, Some, nat_lt, refl, sym, ap, ◌∙◌, arith, length, take, drop, get_or}
use Rattle.std.specs.List.{onto_first, position, position_or_len}
use Rattle.std.proofs.lemmas.Bool.Decides.{nat_tests}
use Rattle.std.proofs.lemmas.List.Quantifiers.{position-Some}
use Rattle.std.proofs.lemmas.List.Sums.{fails_before_first}
use Rattle.promise_script.specs.ScriptText.{lines_of}

abbrev lined_by : ℕ → List (List ℕ) → Bool → List (List ℕ)
lined_by c lines b = cond b ([] ∷ lines) (onto_first c lines)

-- up to the first LF
pub cut_at : (xs : List ℕ) (i : ℕ) → i < length xs → (get_or xs i 0 == 10) ≡ true → ((k : ℕ) → k < i → (get_or xs k 0 == 10) ≡ false)
    → lines_of xs ≡ take i xs ∷ lines_of (drop (suc i) xs)
cut_at [] i inside here before = absurd (omega arith)
cut_at (x ∷ xs) zero inside here before = ap (lined_by x (lines_of xs)) here
cut_at (x ∷ xs) (suc i) inside here before =
    ap (lined_by x (lines_of xs)) (before 0 (omega arith))
    ∙ ap (onto_first x) (cut_at xs i (omega arith) here (λ k below. before (suc k) (omega (arith, below))))

-- all, where there is no LF
pub cut_none : (xs : List ℕ) → 0 < length xs → ((k : ℕ) → k < length xs → (get_or xs k 0 == 10) ≡ false) → lines_of xs ≡ xs ∷ []
cut_none [] some none = absurd (omega arith)
cut_none (x ∷ []) some none = ap (lined_by x []) (none 0 (omega arith))
cut_none (x ∷ y ∷ ys) some none =
    ap (lined_by x (lines_of (y ∷ ys))) (none 0 (omega arith))
    ∙ ap (onto_first x) (cut_none (y ∷ ys) (omega arith) (λ k below. none (suc k) (omega (arith, below))))

-- where there is no place, no octet is an LF
pub none_before : (xs : List ℕ) → position (λ c. c == 10) xs ≡ None → (k : ℕ) → k < length xs → (get_or xs k 0 == 10) ≡ false
none_before xs e k inside = by (nat_lt (position_or_len (λ c. c == 10) xs) (length xs)) refl e
  where
    beyond : (m n : ℕ) → nat_lt m n ≡ false → n ≤ m
    beyond m n h = grind (arith, nat_tests)

    by : (b : Bool) → nat_lt (position_or_len (λ c. c == 10) xs) (length xs) ≡ b → cond b (Some (position_or_len (λ c. c == 10) xs)) None ≡ None → (get_or xs k 0 == 10) ≡ false
    by true test e = absurd (cc (e))
    by false test e = fails_before_first (λ c. c == 10) xs k 0 (omega (arith, inside, beyond (position_or_len (λ c. c == 10) xs) (length xs) test))

-- the first line of a text and the lines behind it
pub first_and_rest : (xs : List ℕ) (i : ℕ) (behind : List ℕ) → position (λ c. c == 10) xs ≡ Some i → behind ≡ drop (i + 1) xs → lines_of xs ≡ take i xs ∷ lines_of behind
first_and_rest xs i behind e rest =
    let at = position-Some (λ c. c == 10) xs i 0 e in
    let place : suc i ≡ i + 1 = omega arith in
    let next : drop (suc i) xs ≡ behind = ap (λ (k : ℕ). drop k xs) place ∙ sym rest in
    cut_at xs i at.0 at.1 at.2 ∙ ap (λ (ys : List ℕ). take i xs ∷ lines_of ys) next

pub line_alone : (xs behind : List ℕ) → 0 < length xs → position (λ c. c == 10) xs ≡ None → behind ≡ [] → lines_of xs ≡ xs ∷ lines_of behind
line_alone xs behind some e rest = cut_none xs some (none_before xs e) ∙ ap (λ (ys : List ℕ). xs ∷ lines_of ys) (sym rest)

pub take_over : {A : Type 0} (k : ℕ) (ys : List A) → length ys ≤ k → take k ys ≡ ys
take_over zero [] over = refl
take_over (suc k) [] over = refl
take_over zero (y ∷ ys) over = absurd (omega arith)
take_over {A} (suc k) (y ∷ ys) over = ap (λ (zs : List A). y ∷ zs) (take_over k ys (omega arith))
