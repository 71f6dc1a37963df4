-- Cutting a value at its first comma.
use Rattle.std.proofs.Common.{◌≡◌, ◌≢◌, ℕ, zero, suc, ◌+◌, ◌<◌, cond, Bool, true, false, ◌||◌, ◌&&◌, List, [], ◌∷◌, ◌++◌, map, length, get_or, take, drop, refl, sym, ap, ◌∙◌, arith}
use Rattle.std.specs.Prelude.{count_by, nat_lt, ◌==◌}
use Rattle.std.specs.Borrow.{Bor}
use Rattle.std.specs.List.{list_any}
use Rattle.std.proofs.lemmas.List.{map_push, map-append}
use Rattle.std.proofs.lemmas.List.Sums.{sum_by_push, sum_by-cons}
use Rattle.std.proofs.lemmas.Bool.{eq-eqb, ne_eqb}
use Rattle.std.proofs.lemmas.Bool.Decides.{nat_tests}
use Rattle.httparse.specs.Grammar.{trim_ows}
use Rattle.std.specs.Prelude.{fold}
use Rattle.std.specs.List.{list_all}
use Rattle.std.specs.Char.{is_ascii_digit, digit_value}
use Rattle.std.specs.Str.Parse.{digits_value}
use Rattle.std.proofs.lemmas.Str.{digit_value_digit}
use Rattle.std.proofs.lemmas.List.Folds.{fold_stays}
use Rattle.std.proofs.lemmas.List.Sums.{fold_push}
use Rattle.http_heads.specs.declared.Framing.TheVariants.{Length, Fault}
use Rattle.http_heads.specs.declared.rules.Sizes.{Sizes}
use Rattle.http_heads.specs.declared.rules.Sizes.TheVariants as sizes
use Rattle.http_heads.specs.Framing.{is_chunked, ends_chunked, is_length, is_length_of, length_of, add_length, framing_by}
use Rattle.http_heads.specs.Values.{is_blank, cons_first, cut_at_commas, kept, elements}

cut_first : (xs : List ℕ) (i : ℕ) → i < length xs → get_or xs i 0 ≡ 44 → ((k : ℕ) → k < i → get_or xs k 0 ≢ 44) → cut_at_commas xs ≡ take i xs ∷ cut_at_commas (drop (suc i) xs)
cut_first [] i inside comma before = absurd (omega arith)
cut_first (b ∷ bs) zero inside comma before =
    ap (λ t. cond t ([] ∷ cut_at_commas bs) (cons_first b (cut_at_commas bs))) (eq-eqb b 44 comma)
cut_first (b ∷ bs) (suc i) inside comma before =
    ap (λ t. cond t ([] ∷ cut_at_commas bs) (cons_first b (cut_at_commas bs))) (ne_eqb b 44 (before 0 (omega arith)))
    ∙ ap (cons_first b) (cut_first bs i (omega arith) comma (λ k below. before (suc k) (omega arith)))

cut_nowhere : (xs : List ℕ) → ((k : ℕ) → k < length xs → get_or xs k 0 ≢ 44) → cut_at_commas xs ≡ xs ∷ []
cut_nowhere [] none = refl
cut_nowhere (b ∷ bs) none =
    ap (λ t. cond t ([] ∷ cut_at_commas bs) (cons_first b (cut_at_commas bs))) (ne_eqb b 44 (none 0 (omega arith)))
    ∙ ap (cons_first b) (cut_nowhere bs (λ k below. none (suc k) (omega arith)))

pub elements_at : (xs : List ℕ) (i : ℕ) → i < length xs → get_or xs i 0 ≡ 44 → ((k : ℕ) → k < i → get_or xs k 0 ≢ 44) → elements xs ≡ cond (is_blank (trim_ows (take i xs))) (elements (drop (suc i) xs)) (trim_ows (take i xs) ∷ elements (drop (suc i) xs))
elements_at xs i inside comma before = ap (λ ps. kept (map trim_ows ps)) (cut_first xs i inside comma before)

pub elements_whole : (xs : List ℕ) → ((k : ℕ) → k < length xs → get_or xs k 0 ≢ 44) → elements xs ≡ cond (is_blank (trim_ows xs)) [] (trim_ows xs ∷ [])
elements_whole xs none = ap (λ ps. kept (map trim_ows ps)) (cut_nowhere xs none)

-- the last element decides
pub ends_chunked_push : (es : List (List ℕ)) (e : List ℕ) → ends_chunked (es ++ e ∷ []) ≡ is_chunked e
ends_chunked_push [] e = refl
ends_chunked_push (f ∷ []) e = refl
ends_chunked_push (f ∷ g ∷ es) e = ends_chunked_push (g ∷ es) e

pub list_any_push : {X : Type 0} (p : X → Bool) (xs : List X) (x : X) → list_any p (xs ++ x ∷ []) ≡ (list_any p xs || p x)
list_any_push p [] x = by_test (p x)
  where
    by_test : (t : Bool) → (t || false) ≡ (false || t)
    by_test true = refl
    by_test false = refl
list_any_push p (y ∷ xs) x = by_test (p y) (list_any_push p xs x)
  where
    by_test : (t : Bool) → list_any p (xs ++ x ∷ []) ≡ (list_any p xs || p x) → (t || list_any p (xs ++ x ∷ [])) ≡ ((t || list_any p xs) || p x)
    by_test true h = refl
    by_test false h = h

-- ---- one more element that an iterator gave

abbrev pub seen : List (Bor (List ℕ)) → List (List ℕ)
seen es = map (λ e. e.now) es

pub list_any_seen : (p : List ℕ → Bool) (es : List (Bor (List ℕ))) (e : Bor (List ℕ)) → (list_any p (seen es) || p e.now) ≡ list_any p (seen (es ++ e ∷ []))
list_any_seen p es e = sym (ap (list_any p) (map_push (λ (x : Bor (List ℕ)). x.now) es e) ∙ list_any_push p (seen es) e.now)

pub ends_chunked_seen : (es : List (Bor (List ℕ))) (e : Bor (List ℕ)) → is_chunked e.now ≡ ends_chunked (seen (es ++ e ∷ []))
ends_chunked_seen es e = sym (ap ends_chunked (map_push (λ (x : Bor (List ℕ)). x.now) es e) ∙ ends_chunked_push (seen es) e.now)

pub any_from_count : {X : Type 0} (p : X → Bool) (xs : List X) → list_any p xs ≡ nat_lt 0 (count_by p xs)
any_from_count p [] = refl
any_from_count p (x ∷ xs) = by_test (p x) (any_from_count p xs) ∙ ap (nat_lt 0) (sym (sum_by-cons (λ y. cond (p y) 1 0) x xs))
  where
    by_test : (t : Bool) → list_any p xs ≡ nat_lt 0 (count_by p xs) → (t || list_any p xs) ≡ nat_lt 0 (cond t 1 0 + count_by p xs)
    by_test true h = grind (arith, nat_tests)
    by_test false h = h ∙ ap (nat_lt 0) (omega arith)

pub twice_by_number : (n : ℕ) (t : Bool) → (nat_lt 1 n || (nat_lt 0 n && t)) ≡ nat_lt 1 (n + cond t 1 0)
twice_by_number zero true = refl
twice_by_number zero false = refl
twice_by_number (suc zero) true = refl
twice_by_number (suc zero) false = refl
twice_by_number (suc (suc n)) true = grind (arith, nat_tests)
twice_by_number (suc (suc n)) false = grind (arith, nat_tests)

twice_push : {X : Type 0} (p : X → Bool) (xs : List X) (x : X) → (nat_lt 1 (count_by p xs) || (list_any p xs && p x)) ≡ nat_lt 1 (count_by p (xs ++ x ∷ []))
twice_push p xs x =
    (λ i. nat_lt 1 (count_by p xs) || (any_from_count p xs i && p x)) ∙ twice_by_number (count_by p xs) (p x) ∙ ap (nat_lt 1) (sym (sum_by_push (λ y. cond (p y) 1 0) xs x))

pub twice_seen : (p : List ℕ → Bool) (es : List (Bor (List ℕ))) (e : Bor (List ℕ)) → (nat_lt 1 (count_by p (seen es)) || (list_any p (seen es) && p e.now)) ≡ nat_lt 1 (count_by p (seen (es ++ e ∷ [])))
twice_seen p es e = twice_push p (seen es) e.now ∙ ap (λ l. nat_lt 1 (count_by p l)) (sym (map_push (λ (x : Bor (List ℕ)). x.now) es e))

-- ---- lengths

both : (a b : Bool) → (a && b) ≡ true → (a ≡ true) × (b ≡ true)
both true true h = (refl, refl)
both true false h = cc
both false b h = cc

pub digit_at : (ds : List ℕ) (i : ℕ) → list_all is_ascii_digit ds ≡ true → i < length ds → digit_value (get_or ds i 0) + 48 ≡ get_or ds i 0
digit_at [] i all inside = absurd (omega arith)
digit_at (d ∷ ds) zero all inside = let here : is_ascii_digit d ≡ true = (both (is_ascii_digit d) (list_all is_ascii_digit ds) all).0 in digit_value_digit d (grind (arith, nat_tests))
digit_at (d ∷ ds) (suc i) all inside = digit_at ds i (both (is_ascii_digit d) (list_all is_ascii_digit ds) all).1 (omega arith)

add_after : (n : ℕ) (es : List (List ℕ)) → framing_by (fold add_length (sizes.Same n) es) ≡ cond (list_all (is_length_of n) es) (Length n) (Fault 400)
add_after n [] = refl
add_after n (e ∷ es) = by_test (is_length_of n e) (add_after n es)
  where
    by_test : (t : Bool) → framing_by (fold add_length (sizes.Same n) es) ≡ cond (list_all (is_length_of n) es) (Length n) (Fault 400) → framing_by (fold add_length (cond t (sizes.Same n) sizes.Invalid) es) ≡ cond (t && list_all (is_length_of n) es) (Length n) (Fault 400)
    by_test true later = later
    by_test false later = ap framing_by (fold_stays add_length sizes.Invalid (λ _. refl) es)

pub length_is_fold : (es : List (List ℕ)) → framing_by (fold add_length sizes.Absent es) ≡ length_of es
length_is_fold [] = refl
length_is_fold (e ∷ es) = by_test (is_length e) (add_after (digits_value 10 e) es)
  where
    by_test : (t : Bool) → framing_by (fold add_length (sizes.Same (digits_value 10 e)) es) ≡ cond (list_all (is_length_of (digits_value 10 e)) es) (Length (digits_value 10 e)) (Fault 400) → framing_by (fold add_length (cond t (sizes.Same (digits_value 10 e)) sizes.Invalid) es) ≡ cond (t && list_all (is_length_of (digits_value 10 e)) es) (Length (digits_value 10 e)) (Fault 400)
    by_test true later = later
    by_test false later = ap framing_by (fold_stays add_length sizes.Invalid (λ _. refl) es)

pub fold_seen : (s : Sizes) (es : List (Bor (List ℕ))) (e : Bor (List ℕ)) → add_length (fold add_length s (seen es)) e.now ≡ fold add_length s (seen (es ++ e ∷ []))
fold_seen s es e = sym (ap (fold add_length s) (map_push (λ (x : Bor (List ℕ)). x.now) es e) ∙ fold_push add_length s (seen es) e.now)

-- ---- values joined by a comma

-- a value has a first piece
cut_some : (xs : List ℕ) → (piece : List ℕ) × (pieces : List (List ℕ)) × (cut_at_commas xs ≡ piece ∷ pieces)
cut_some [] = ([], [], refl)
cut_some (b ∷ bs) = by_test (b == 44) (cut_some bs)
  where
    by_test : (t : Bool) → ((piece : List ℕ) × (pieces : List (List ℕ)) × (cut_at_commas bs ≡ piece ∷ pieces)) → (piece : List ℕ) × (pieces : List (List ℕ)) × (cond t ([] ∷ cut_at_commas bs) (cons_first b (cut_at_commas bs)) ≡ piece ∷ pieces)
    by_test true r = ([], cut_at_commas bs, refl)
    by_test false r = (b ∷ r.0, r.1, ap (cons_first b) r.2)

cut-append : (a b : List ℕ) → cut_at_commas (a ++ 44 ∷ b) ≡ cut_at_commas a ++ cut_at_commas b
cut-append [] b = refl
cut-append (x ∷ a) b = by_test (x == 44) (cut-append a b) (cut_some a)
  where
    by_test : (t : Bool) → cut_at_commas (a ++ 44 ∷ b) ≡ cut_at_commas a ++ cut_at_commas b → ((piece : List ℕ) × (pieces : List (List ℕ)) × (cut_at_commas a ≡ piece ∷ pieces))
        → cond t ([] ∷ cut_at_commas (a ++ 44 ∷ b)) (cons_first x (cut_at_commas (a ++ 44 ∷ b))) ≡ cond t ([] ∷ cut_at_commas a) (cons_first x (cut_at_commas a)) ++ cut_at_commas b
    by_test true later some = ap (λ ps. [] ∷ ps) later
    by_test false later some =
        ap (cons_first x) later ∙ ap (λ ps. cons_first x (ps ++ cut_at_commas b)) some.2 ∙ sym (ap (λ ps. cons_first x ps ++ cut_at_commas b) some.2)

kept-append : (xs ys : List (List ℕ)) → kept (xs ++ ys) ≡ kept xs ++ kept ys
kept-append [] ys = refl
kept-append (x ∷ xs) ys = by_test (is_blank x) (kept-append xs ys)
  where
    by_test : (t : Bool) → kept (xs ++ ys) ≡ kept xs ++ kept ys → cond t (kept (xs ++ ys)) (x ∷ kept (xs ++ ys)) ≡ cond t (kept xs) (x ∷ kept xs) ++ kept ys
    by_test true later = later
    by_test false later = ap (λ es. x ∷ es) later

-- joined by a comma, two values have the elements of both
pub elements-join : (a b : List ℕ) → elements (a ++ 44 ∷ b) ≡ elements a ++ elements b
elements-join a b = ap (λ ps. kept (map trim_ows ps)) (cut-append a b) ∙ ap kept (map-append trim_ows (cut_at_commas a) (cut_at_commas b)) ∙ kept-append (map trim_ows (cut_at_commas a)) (map trim_ows (cut_at_commas b))
