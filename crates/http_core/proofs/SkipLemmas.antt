-- CRLF pairs before a request, and ends of lists.
use Rattle.std.proofs.Common.{◌≡◌, ◌≢◌, ℕ, ◌+◌, ◌-◌, ◌≤◌, Bool, true, false, ◌&&◌, nat_eq, List, [], ◌∷◌, ◌++◌, length, drop, refl, sym, ap, subst, ◌∙◌, arith, cond}
use Rattle.std.proofs.lemmas.List.{length-append}
use Rattle.std.proofs.lemmas.Bool.{ne_eqb}
use Rattle.std.proofs.Math.Seq.{drop-append-add}
use Rattle.http_core.specs.Requests.{skip_pairs}

by_bool : (t : Bool) (P : Bool → Type 0) → (t ≡ true → P true) → (t ≡ false → P false) → P t
by_bool true P on_true on_false = on_true refl
by_bool false P on_true on_false = on_false refl

-- pairs may be dropped before more octets come
pub skip_again : (bytes more : List ℕ) → skip_pairs (bytes ++ more) ≡ skip_pairs (skip_pairs bytes ++ more)
skip_again [] more = refl
skip_again (a ∷ []) more = refl
skip_again (a ∷ b ∷ rest) more =
    by_bool (nat_eq a 13 && nat_eq b 10) (λ (t : Bool). cond t (skip_pairs (rest ++ more)) (a ∷ b ∷ (rest ++ more)) ≡ skip_pairs (cond t (skip_pairs rest) (a ∷ b ∷ rest) ++ more))
    (λ _. skip_again rest more)
    (λ other. sym (ap (λ (t : Bool). cond t (skip_pairs (rest ++ more)) (a ∷ b ∷ (rest ++ more))) other))

-- what is left stands at the end
pub skips : (bytes : List ℕ) → (pairs : List ℕ) × (bytes ≡ pairs ++ skip_pairs bytes)
skips [] = ([], refl)
skips (a ∷ []) = ([], refl)
skips (a ∷ b ∷ rest) =
    by_bool (nat_eq a 13 && nat_eq b 10) (λ (t : Bool). (pairs : List ℕ) × (a ∷ b ∷ rest ≡ pairs ++ cond t (skip_pairs rest) (a ∷ b ∷ rest)))
    (λ _. let others = skips rest in (a ∷ b ∷ others.0, ap (λ (r : List ℕ). a ∷ b ∷ r) others.1))
    (λ _. ([], refl))

-- two octets that are no pair are kept
kept : (bytes more : List ℕ) → 2 ≤ length (skip_pairs bytes) → skip_pairs (skip_pairs bytes ++ more) ≡ skip_pairs bytes ++ more
kept [] more long = absurd (omega arith)
kept (a ∷ []) more long = absurd (omega arith)
kept (a ∷ b ∷ rest) more long =
    by_bool (nat_eq a 13 && nat_eq b 10) (λ (t : Bool). 2 ≤ length (cond t (skip_pairs rest) (a ∷ b ∷ rest)) → skip_pairs (cond t (skip_pairs rest) (a ∷ b ∷ rest) ++ more) ≡ cond t (skip_pairs rest) (a ∷ b ∷ rest) ++ more)
    (λ _ h. kept rest more h)
    (λ other h. ap (λ (t : Bool). cond t (skip_pairs (rest ++ more)) (a ∷ b ∷ (rest ++ more))) other) long

pub skip_front : (bytes more : List ℕ) → 2 ≤ length (skip_pairs bytes) → skip_pairs (bytes ++ more) ≡ skip_pairs bytes ++ more
skip_front bytes more long = skip_again bytes more ∙ kept bytes more long

-- an octet but CR begins no pair
one_kept : (x : ℕ) (more : List ℕ) → x ≢ 13 → skip_pairs (x ∷ more) ≡ x ∷ more
one_kept x [] other = refl
one_kept x (m ∷ more) other = ap (λ (t : Bool). cond (t && nat_eq m 10) (skip_pairs more) (x ∷ m ∷ more)) (ne_eqb x 13 other)

-- but for none and a lone CR, what is left stands before all that follows
pub skip_stays : (bytes more : List ℕ) → skip_pairs bytes ≢ [] → skip_pairs bytes ≢ 13 ∷ [] → skip_pairs (bytes ++ more) ≡ skip_pairs bytes ++ more
skip_stays bytes more some other =
    skip_again bytes more ∙ by_text (skip_pairs bytes) refl
  where
    by_text : (text : List ℕ) → skip_pairs bytes ≡ text → skip_pairs (skip_pairs bytes ++ more) ≡ skip_pairs bytes ++ more
    by_text [] same = absurd (some same)
    by_text (x ∷ []) same = subst (λ (t : List ℕ). skip_pairs (t ++ more) ≡ t ++ more) (sym same) (one_kept x more (λ e. other (same ∙ ap (λ (y : ℕ). y ∷ []) e)))
    by_text (x ∷ y ∷ rest) same = kept bytes more (omega (arith, ap length same))

-- the last octets of a list are the last of its end
pub last_of_end : (a x : List ℕ) (left : ℕ) → left ≤ length x → drop (length (a ++ x) - left) (a ++ x) ≡ drop (length x - left) x
last_of_end a x left inside =
    let count : length (a ++ x) - left ≡ length a + (length x - left) = omega (arith, length-append a x) in
    ap (λ (n : ℕ). drop n (a ++ x)) count ∙ drop-append-add a x (length x - left)

pub same_split : (a b s t : List ℕ) → length a ≡ length b → a ++ s ≡ b ++ t → s ≡ t
same_split [] [] s t long same = same
same_split [] (y ∷ b) s t long same = absurd (omega arith)
same_split (x ∷ a) [] s t long same = absurd (omega arith)
same_split (x ∷ a) (y ∷ b) s t long same = let others : a ++ s ≡ b ++ t = cc in same_split a b s t (omega arith) others
