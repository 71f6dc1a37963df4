-- Lines of chunks: where they end, and that they have no CR.
use Rattle.std.proofs.Common.{◌≡◌, ◌≢◌, ℕ, zero, suc, ◌+◌, ◌<◌, ◌≤◌, Bool, true, false, cond, ◌&&◌, List, [], ◌∷◌, ◌++◌, length, get_or, take, drop, refl, ap, sym, subst, ◌∙◌, arith}
use Rattle.std.specs.Prelude.{IsTrue}
use Rattle.std.specs.List.{list_all}
use Rattle.std.specs.Char.{is_ascii_hexdigit}
use Rattle.std.proofs.lemmas.List.{take-append-drop, drop_more, length-append}
use Rattle.std.proofs.lemmas.Bool.{eqb-true, leb-true}
use Rattle.httparse.specs.Grammar.{is_value_byte, is_ows, skip_ows}
use Rattle.http_frames.specs.Chunks.{digit_count, is_extension, is_size_line, line_text, NoCr}

-- ---- CR

-- what ends at the first CR is determined
pub first_cr_unique : (a b r q : List ℕ) → NoCr a → NoCr b → a ++ 13 ∷ r ≡ b ++ 13 ∷ q → (a ≡ b) × (r ≡ q)
first_cr_unique [] [] r q na nb h = (refl, cc)
first_cr_unique [] (y ∷ b) r q na nb h = absurd (nb.0 (cc))
first_cr_unique (x ∷ a) [] r q na nb h = absurd (na.0 (cc))
first_cr_unique (x ∷ a) (y ∷ b) r q na nb h =
    let same : x ≡ y = cc in
    let others : a ++ 13 ∷ r ≡ b ++ 13 ∷ q = cc in
    let found = first_cr_unique a b r q na.1 nb.1 others in
    (cc (found.0), found.1)

-- a CR stands behind what has none
pub cr_behind : (a b more q : List ℕ) → NoCr a → a ++ more ≡ b ++ 13 ∷ q → length a ≤ length b
cr_behind [] b more q na h = omega arith
cr_behind (x ∷ a) [] more q na h = absurd (na.0 (cc))
cr_behind (x ∷ a) (y ∷ b) more q na h =
    let others : a ++ more ≡ b ++ 13 ∷ q = cc in
    omega (arith, cr_behind a b more q na.1 others)

no_cr_in : (a b q : List ℕ) → NoCr a → a ≡ b ++ 13 ∷ q → ⊥
no_cr_in [] [] q na h = cc
no_cr_in [] (y ∷ b) q na h = cc
no_cr_in (x ∷ a) [] q na h = na.0 (cc)
no_cr_in (x ∷ a) (y ∷ b) q na h =
    let others : a ≡ b ++ 13 ∷ q = cc in
    no_cr_in a b q na.1 others

pub no_cr_everywhere : (xs : List ℕ) → ((k : ℕ) → k < length xs → get_or xs k 0 ≢ 13) → NoCr xs
no_cr_everywhere [] none = tt
no_cr_everywhere (x ∷ xs) none = (none 0 (omega arith), no_cr_everywhere xs (λ k below. none (suc k) (omega arith)))

pub no_cr_before : (xs : List ℕ) (at : ℕ) → at < length xs → ((k : ℕ) → k < at → get_or xs k 0 ≢ 13) → NoCr (take at xs)
no_cr_before [] at inside before = absurd (omega arith)
no_cr_before (x ∷ xs) zero inside before = tt
no_cr_before (x ∷ xs) (suc at) inside before = (before 0 (omega arith), no_cr_before xs at (omega arith) (λ k below. before (suc k) (omega arith)))

pub split_at_cr : (xs : List ℕ) (at : ℕ) → at < length xs → get_or xs at 0 ≡ 13 → xs ≡ take at xs ++ 13 ∷ drop (at + 1) xs
split_at_cr xs at inside cr = sym (take-append-drop at xs) ∙ ap (λ (l : List ℕ). take at xs ++ l) (drop_more xs at 0 inside ∙ ap (λ (b : ℕ). b ∷ drop (at + 1) xs) cr)

-- ---- no line has a CR

both : (a b : Bool) → (a && b) ≡ true → (a ≡ true) × (b ≡ true)
both true true h = (refl, refl)
both true false h = cc
both false b h = cc

value_no_cr : (bs : List ℕ) → list_all is_value_byte bs ≡ true → NoCr bs
value_no_cr [] h = tt
value_no_cr (b ∷ bs) h =
    let parts = both _ _ h in
    (λ cr. no_value (subst (λ (x : ℕ). is_value_byte x ≡ true) cr parts.0), value_no_cr bs parts.1)
  where
    no_value : is_value_byte 13 ≡ true → ⊥
    no_value h = cc

extension_no_cr : (t : List ℕ) → is_extension t ≡ true → NoCr t
extension_no_cr [] h = tt
extension_no_cr (b ∷ bs) h =
    let parts = both _ _ h in
    let semicolon : b ≡ 59 = eqb-true b 59 parts.0 in
    (λ cr. omega arith, value_no_cr bs parts.1)

blank_no_cr : (t : List ℕ) → is_extension (skip_ows t) ≡ true → NoCr t
blank_no_cr [] h = tt
blank_no_cr (b ∷ bs) h = by_test (is_ows b) refl h (blank_no_cr bs)
  where
    no_blank : is_ows 13 ≡ true → ⊥
    no_blank h = cc

    by_test : (t : Bool) → is_ows b ≡ t → is_extension (cond t (skip_ows bs) (b ∷ bs)) ≡ true → (is_extension (skip_ows bs) ≡ true → NoCr bs) → NoCr (b ∷ bs)
    by_test true is h later = (λ cr. no_blank (subst (λ (x : ℕ). is_ows x ≡ true) cr is), later h)
    by_test false is h later = extension_no_cr (b ∷ bs) h

digits_no_cr : (t : List ℕ) → is_extension (skip_ows (drop (digit_count t) t)) ≡ true → NoCr t
digits_no_cr [] h = tt
digits_no_cr (b ∷ bs) h = by_test (is_ascii_hexdigit b) refl h (digits_no_cr bs)
  where
    no_digit : is_ascii_hexdigit 13 ≡ true → ⊥
    no_digit h = cc

    by_test : (t : Bool) → is_ascii_hexdigit b ≡ t → is_extension (skip_ows (drop (cond t (1 + digit_count bs) 0) (b ∷ bs))) ≡ true → (is_extension (skip_ows (drop (digit_count bs) bs)) ≡ true → NoCr bs) → NoCr (b ∷ bs)
    by_test true is h later =
        let more : 1 + digit_count bs ≡ suc (digit_count bs) = omega arith in
        (λ cr. no_digit (subst (λ (x : ℕ). is_ascii_hexdigit x ≡ true) cr is), later (sym (ap (λ n. is_extension (skip_ows (drop n (b ∷ bs)))) more) ∙ h))
    by_test false is h later = blank_no_cr (b ∷ bs) h

pub line_no_cr : (line : List ℕ) → IsTrue (is_size_line line) → NoCr line
line_no_cr line h = digits_no_cr line (both _ _ (both _ _ h).1).1

pub line_short : (line : List ℕ) → IsTrue (is_size_line line) → length line ≤ 4094
line_short line h = leb-true (length line) 4094 (both _ _ (both _ _ h).1).0

-- ---- which lines can stand at the front

-- no line ends in what has no CR
pub no_line_in : (front line rest : List ℕ) → NoCr front → front ≡ line_text line rest → ⊥
no_line_in front line rest none h = no_cr_in front line (10 ∷ rest) none h

-- nor where the CR is the last octet
pub no_line_before_lf : (front line rest : List ℕ) → NoCr front → front ++ 13 ∷ [] ≡ line_text line rest → ⊥
no_line_before_lf [] [] rest none h = cc
no_line_before_lf [] (y ∷ line) rest none h = omega (arith, ap length h, length-append line (13 ∷ 10 ∷ rest))
no_line_before_lf (x ∷ front) [] rest none h = none.0 (cc)
no_line_before_lf (x ∷ front) (y ∷ line) rest none h =
    let others : front ++ 13 ∷ [] ≡ line_text line rest = cc in
    no_line_before_lf front line rest none.1 others
