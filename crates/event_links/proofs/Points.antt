-- Places of points in a list of events, as events come and go.
use Rattle.std.proofs.Common.{zero, suc, ◌≡◌, ◌≢◌, ◌∙◌, ℕ, ◌+◌, ◌<◌, ◌≤◌, List, [], ◌∷◌, length, true, false, arith, refl, sym, ap, subst, inl, inr, slice_get}
use Rattle.std.specs.Prelude.{nat_eq, insert, remove, unwrap_or}
use Rattle.std.specs.List.{IsDistinct}
use Rattle.std.proofs.lemmas.Bool.{false≢true, eqb-true, eqb-false, ne_eqb, eq-eqb, cases_Bool}
use Rattle.std.proofs.lemmas.Bool.Decides.{nat_tests}
use Rattle.kj_base.specs.Queue.{falls}
use Rattle.linked_lists.specs.Lists.{is_in, place_of, member_behind, without}
use Rattle.linked_lists.proofs.Paths.{first_out, rest_out, rest_in, apart_first, apart_rest, without_same, without_other}

place_same : (p x : ℕ) (xs : List ℕ) → nat_eq x p ≡ true → place_of p (x ∷ xs) ≡ 0
place_same p x xs h = rw h refl

place_other : (p x : ℕ) (xs : List ℕ) → nat_eq x p ≡ false → place_of p (x ∷ xs) ≡ 1 + place_of p xs
place_other p x xs h = rw h refl

-- a point at or behind the place where an event goes rises
pub later_point : (p e i : ℕ) (xs : List ℕ) → i ≤ place_of p xs → e ≢ p → place_of p (insert xs i e) ≡ place_of p xs + 1
later_point p e zero [] l d = place_other p e [] (ne_eqb e p d)
later_point p e (suc i) [] l d = absurd (omega arith)
later_point p e zero (x ∷ xs) l d = let k = place_other p e (x ∷ xs) (ne_eqb e p d) in omega arith
later_point p e (suc i) (x ∷ xs) l d = elim (cases_Bool (nat_eq x p)) [
  | inl s ↦ let k = place_same p x xs s in absurd (omega arith)
  | inr s ↦
      let k = place_other p x xs s in
      let m = place_other p x (insert xs i e) s in
      let r = later_point p e i xs (omega arith) d in
      omega arith
]

-- one before it stays
pub earlier_point : (p e i : ℕ) (xs : List ℕ) → place_of p xs < i → i ≤ length xs → place_of p (insert xs i e) ≡ place_of p xs
earlier_point p e zero xs l w = absurd (omega arith)
earlier_point p e (suc i) [] l w = absurd (omega arith)
earlier_point p e (suc i) (x ∷ xs) l w = elim (cases_Bool (nat_eq x p)) [
  | inl s ↦ place_same p x (insert xs i e) s ∙ sym (place_same p x xs s)
  | inr s ↦
      let k = place_other p x xs s in
      let m = place_other p x (insert xs i e) s in
      let r = earlier_point p e i xs (omega arith) (omega arith) in
      omega arith
]

-- a point at the new event is its place
pub new_point : (e i : ℕ) (xs : List ℕ) → is_in e xs ≡ false → i ≤ length xs → place_of e (insert xs i e) ≡ i
new_point e zero xs n w = place_same e e xs (eq-eqb e e refl)
new_point e (suc i) [] n w = absurd (omega arith)
new_point e (suc i) (x ∷ xs) n w =
    let m = place_other e x (insert xs i e) (first_out e x xs n) in
    let r = new_point e i xs (rest_out e x xs n) (omega arith) in
    omega arith

pub place_past : (p : ℕ) (xs : List ℕ) → is_in p xs ≡ false → place_of p xs ≡ length xs
place_past p [] n = refl
place_past p (x ∷ xs) n = let k = place_other p x xs (first_out p x xs n) in let r = place_past p xs (rest_out p x xs n) in omega arith

pub place_before : (p : ℕ) (xs : List ℕ) → is_in p xs ≡ true → place_of p xs < length xs
place_before p [] n = absurd (false≢true n)
place_before p (x ∷ xs) n = elim (cases_Bool (nat_eq x p)) [
  | inl s ↦ let k = place_same p x xs s in omega arith
  | inr s ↦ let k = place_other p x xs s in let r = place_before p xs (rest_in p x xs s n) in omega arith
]

pub place_most : (p : ℕ) (xs : List ℕ) → place_of p xs ≤ length xs
place_most p xs = elim (cases_Bool (is_in p xs)) [ inl i ↦ let r = place_before p xs i in omega arith | inr n ↦ let r = place_past p xs n in omega arith ]

only_head : (p head : ℕ) → is_in p (head ∷ []) ≡ true → head ≡ p
only_head p head i = elim (cases_Bool (nat_eq head p)) [ inl s ↦ eqb-true head p s | inr s ↦ absurd (false≢true (rest_in p head [] s i)) ]

narrower : (p head x : ℕ) (xs : List ℕ) → nat_eq x p ≡ false → is_in p (head ∷ x ∷ xs) ≡ true → is_in p (head ∷ xs) ≡ true
narrower p head x xs s i = elim (cases_Bool (nat_eq head p)) [ inl h ↦ rw h refl | inr h ↦ rw h (rest_in p x xs s (rest_in p head (x ∷ xs) h i)) ]

wider : (p head x : ℕ) (xs : List ℕ) → is_in p (head ∷ xs) ≡ true → is_in p (head ∷ x ∷ xs) ≡ true
wider p head x xs i = elim (cases_Bool (nat_eq head p)) [
  | inl h ↦ rw h refl
  | inr h ↦ rw h (elim (cases_Bool (nat_eq x p)) [ inl s ↦ rw s refl | inr s ↦ rw s (rest_in p head xs h i) ])
]

first_within : (head x : ℕ) (xs : List ℕ) → is_in x (head ∷ x ∷ xs) ≡ true
first_within head x xs = elim (cases_Bool (nat_eq head x)) [ inl h ↦ rw h refl | inr h ↦ let s = eq-eqb x x refl in rw (h, s) refl ]

-- points at one place are one
pub same_point : (p q head : ℕ) (xs : List ℕ) → is_in p (head ∷ xs) ≡ true → is_in q (head ∷ xs) ≡ true → place_of p xs ≡ place_of q xs → p ≡ q
same_point p q head [] i j e = sym (only_head p head i) ∙ only_head q head j
same_point p q head (x ∷ xs) i j e = elim (cases_Bool (nat_eq x p)) [
  | inl s ↦ elim (cases_Bool (nat_eq x q)) [
    | inl t ↦ sym (eqb-true x p s) ∙ eqb-true x q t
    | inr t ↦ let k = place_same p x xs s in let m = place_other q x xs t in absurd (omega arith)
  ]
  | inr s ↦ elim (cases_Bool (nat_eq x q)) [
    | inl t ↦ let k = place_other p x xs s in let m = place_same q x xs t in absurd (omega arith)
    | inr t ↦ let k = place_other p x xs s in let m = place_other q x xs t in same_point p q head xs (narrower p head x xs s i) (narrower q head x xs t j) (omega arith)
  ]
]

-- an insertion keeps what is there, and brings its event
pub still_within : (p e i head : ℕ) (xs : List ℕ) → is_in p (head ∷ xs) ≡ true → is_in p (head ∷ insert xs i e) ≡ true
still_within p e zero head xs i = wider p head e xs i
still_within p e (suc i) head [] h = wider p head e [] h
still_within p e (suc i) head (x ∷ xs) h = elim (cases_Bool (nat_eq x p)) [
  | inl s ↦ subst (λ y. is_in y (head ∷ x ∷ insert xs i e) ≡ true) (eqb-true x p s) (first_within head x (insert xs i e))
  | inr s ↦ wider p head x (insert xs i e) (still_within p e i head xs (narrower p head x xs s h))
]

pub new_within : (e i head : ℕ) (xs : List ℕ) → is_in e (head ∷ insert xs i e) ≡ true
new_within e zero head xs = first_within head e xs
new_within e (suc i) head [] = first_within head e []
new_within e (suc i) head (x ∷ xs) = wider e head x (insert xs i e) (new_within e i head xs)

pub not_new : (x e i : ℕ) (xs : List ℕ) → is_in x (insert xs i e) ≡ false → (is_in x xs ≡ false) × (x ≢ e)
not_new x e zero xs n = (rest_out x e xs n, λ s. eqb-false e x (first_out x e xs n) (sym s))
not_new x e (suc i) [] n = (refl, λ s. eqb-false e x (first_out x e [] n) (sym s))
not_new x e (suc i) (y ∷ xs) n = let r = not_new x e i xs (rest_out x y (insert xs i e) n) in (rw (first_out x y (insert xs i e) n) r.0, r.1)

-- what isn't there can't leave
pub without_absent : (e : ℕ) (xs : List ℕ) → is_in e xs ≡ false → without e xs ≡ xs
without_absent e [] n = refl
without_absent e (x ∷ xs) n = without_other x e xs (first_out e x xs n) ∙ ap (λ ys. x ∷ ys) (without_absent e xs (rest_out e x xs n))

falls_more : (i j : ℕ) → falls (1 + i) (1 + j) ≡ 1 + falls i j
falls_more i j = grind (arith, nat_tests)

falls_first : (j : ℕ) → falls 0 (1 + j) ≡ j
falls_first j = grind (arith, nat_tests)

falls_none : (i : ℕ) → falls i 0 ≡ 0
falls_none i = grind (arith, nat_tests)

pub falls_at : (i : ℕ) → falls i i ≡ i
falls_at i = grind (arith, nat_tests)

differ : (x p e : ℕ) → x ≡ e → p ≢ e → nat_eq x p ≡ false
differ x p e s d = ne_eqb x p (λ t. d (sym t ∙ s))

-- a point elsewhere falls by the event that left before it
pub other_point : (p e : ℕ) (xs : List ℕ) → p ≢ e → is_in e xs ≡ true → IsDistinct nat_eq xs → place_of p (without e xs) ≡ falls (place_of e xs) (place_of p xs)
other_point p e [] d i apart = absurd (false≢true i)
other_point p e (x ∷ xs) d i apart = elim (cases_Bool (nat_eq x e)) [
  | inl s ↦
      let same = eqb-true x e s in
      let gone : without e (x ∷ xs) ≡ xs = without_same x e xs s ∙ without_absent e xs (rw (← same) (apart_first x xs apart)) in
      let k = place_other p x xs (differ x p e same d) in
      ap (place_of p) gone ∙ sym (rw (place_same e x xs s, k) (falls_first (place_of p xs)))
  | inr s ↦ elim (cases_Bool (nat_eq x p)) [
    | inl t ↦ ap (place_of p) (without_other x e xs s) ∙ place_same p x (without e xs) t ∙ sym (rw (place_same p x xs t) (falls_none (place_of e (x ∷ xs))))
    | inr t ↦
        ap (place_of p) (without_other x e xs s)
        ∙ place_other p x (without e xs) t
        ∙ ap (λ n. 1 + n) (other_point p e xs d (rest_in e x xs s i) (apart_rest x xs apart))
        ∙ sym (rw (place_other e x xs s, place_other p x xs t) (falls_more (place_of e xs) (place_of p xs)))
  ]
]

-- the list without the event is that without its place
pub without_is : (e : ℕ) (xs : List ℕ) → is_in e xs ≡ true → IsDistinct nat_eq xs → without e xs ≡ remove xs (place_of e xs)
without_is e [] i apart = absurd (false≢true i)
without_is e (x ∷ xs) i apart = elim (cases_Bool (nat_eq x e)) [
  | inl s ↦ without_same x e xs s ∙ without_absent e xs (rw (← (eqb-true x e s)) (apart_first x xs apart)) ∙ sym (ap (remove (x ∷ xs)) (place_same e x xs s))
  | inr s ↦
      let suc_is : place_of e (x ∷ xs) ≡ suc (place_of e xs) = let k = place_other e x xs s in omega arith in
      without_other x e xs s ∙ ap (λ ys. x ∷ ys) (without_is e xs (rest_in e x xs s i) (apart_rest x xs apart)) ∙ sym (ap (remove (x ∷ xs)) suc_is)
]

-- what stands behind an event, or else the head
abbrev pub behind : ℕ → ℕ → List ℕ → ℕ
behind head e xs = unwrap_or (member_behind e xs) head

behind_same : (head e x : ℕ) (xs : List ℕ) → nat_eq x e ≡ true → behind head e (x ∷ xs) ≡ unwrap_or (slice_get xs 0) head
behind_same head e x xs s = ap (λ n. unwrap_or (slice_get (x ∷ xs) (n + 1)) head) (place_same e x xs s)

behind_other : (head e x : ℕ) (xs : List ℕ) → nat_eq x e ≡ false → behind head e (x ∷ xs) ≡ behind head e xs
behind_other head e x xs s =
    let suc_is : place_of e (x ∷ xs) + 1 ≡ suc (place_of e xs + 1) = let k = place_other e x xs s in omega arith in
    ap (λ n. unwrap_or (slice_get (x ∷ xs) n) head) suc_is

pub first_point_within : (head : ℕ) (xs : List ℕ) → is_in (unwrap_or (slice_get xs 0) head) (head ∷ xs) ≡ true
first_point_within head [] = let s = eq-eqb head head refl in rw s refl
first_point_within head (x ∷ xs) = first_within head x xs

pub behind_within : (head e : ℕ) (xs : List ℕ) → is_in e xs ≡ true → is_in (behind head e xs) (head ∷ xs) ≡ true
behind_within head e [] i = absurd (false≢true i)
behind_within head e (x ∷ xs) i = elim (cases_Bool (nat_eq x e)) [
  | inl s ↦ subst (λ y. is_in y (head ∷ x ∷ xs) ≡ true) (sym (behind_same head e x xs s)) (wider (unwrap_or (slice_get xs 0) head) head x xs (first_point_within head xs))
  | inr s ↦ subst (λ y. is_in y (head ∷ x ∷ xs) ≡ true) (sym (behind_other head e x xs s)) (wider (behind head e xs) head x xs (behind_within head e xs (rest_in e x xs s i)))
]

outside : (x y head : ℕ) (xs : List ℕ) → nat_eq head x ≡ false → is_in x xs ≡ false → is_in y (head ∷ xs) ≡ true → nat_eq x y ≡ false
outside x y head xs h n i = ne_eqb x y (λ e. false≢true (sym (rw (h, n) refl) ∙ subst (λ z. is_in z (head ∷ xs) ≡ true) (sym e) i))

differ_head : (head x : ℕ) (xs : List ℕ) → is_in head (x ∷ xs) ≡ false → nat_eq head x ≡ false
differ_head head x xs h = ne_eqb head x (λ e. eqb-false x head (first_out head x xs h) (sym e))

-- it is another one
pub behind_is_other : (head e : ℕ) (xs : List ℕ) → is_in head xs ≡ false → is_in e xs ≡ true → IsDistinct nat_eq xs → behind head e xs ≢ e
behind_is_other head e [] h i apart = absurd (false≢true i)
behind_is_other head e (x ∷ xs) h i apart = elim (cases_Bool (nat_eq x e)) [
  | inl s ↦ λ t.
      let n = outside x (unwrap_or (slice_get xs 0) head) head xs (differ_head head x xs h) (apart_first x xs apart) (first_point_within head xs) in
      eqb-false x (unwrap_or (slice_get xs 0) head) n (eqb-true x e s ∙ sym (sym (behind_same head e x xs s) ∙ t))
  | inr s ↦ λ t. behind_is_other head e xs (rest_out head x xs h) (rest_in e x xs s i) (apart_rest x xs apart) (sym (behind_other head e x xs s) ∙ t)
]

pub first_point : (head : ℕ) (xs : List ℕ) → place_of (unwrap_or (slice_get xs 0) head) xs ≡ 0
first_point head [] = refl
first_point head (x ∷ xs) = place_same x x xs (eq-eqb x x refl)

-- a point at the event that leaves goes to what stands behind it, which comes to its place
pub point_taken : (head e : ℕ) (xs : List ℕ) → is_in head xs ≡ false → is_in e xs ≡ true → IsDistinct nat_eq xs → place_of (behind head e xs) (without e xs) ≡ place_of e xs
point_taken head e [] h i apart = absurd (false≢true i)
point_taken head e (x ∷ xs) h i apart = elim (cases_Bool (nat_eq x e)) [
  | inl s ↦
      let gone : without e (x ∷ xs) ≡ xs = without_same x e xs s ∙ without_absent e xs (rw (← (eqb-true x e s)) (apart_first x xs apart)) in
      ap (λ y. place_of y (without e (x ∷ xs))) (behind_same head e x xs s)
      ∙ ap (place_of (unwrap_or (slice_get xs 0) head)) gone
      ∙ first_point head xs
      ∙ sym (place_same e x xs s)
  | inr s ↦
      let y = behind head e xs in
      let n = outside x y head xs (differ_head head x xs h) (apart_first x xs apart) (behind_within head e xs (rest_in e x xs s i)) in
      ap (λ z. place_of z (without e (x ∷ xs))) (behind_other head e x xs s)
      ∙ ap (place_of y) (without_other x e xs s)
      ∙ place_other y x (without e xs) n
      ∙ ap (λ k. 1 + k) (point_taken head e xs (rest_out head x xs h) (rest_in e x xs s i) (apart_rest x xs apart))
      ∙ sym (place_other e x xs s)
]

-- a point elsewhere stays within the list
pub kept_within : (p e head : ℕ) (xs : List ℕ) → p ≢ e → is_in p (head ∷ xs) ≡ true → is_in p (head ∷ without e xs) ≡ true
kept_within p e head [] d i = i
kept_within p e head (x ∷ xs) d i = elim (cases_Bool (nat_eq x e)) [
  | inl s ↦ rw (without_same x e xs s) (kept_within p e head xs d (narrower p head x xs (differ x p e (eqb-true x e s) d) i))
  | inr s ↦ rw (without_other x e xs s) (elim (cases_Bool (nat_eq x p)) [
    | inl t ↦ subst (λ y. is_in y (head ∷ x ∷ without e xs) ≡ true) (eqb-true x p t) (first_within head x (without e xs))
    | inr t ↦ wider p head x (without e xs) (kept_within p e head xs d (narrower p head x xs t i))
  ])
]

pub not_left : (x e : ℕ) (xs : List ℕ) → x ≢ e → is_in x (without e xs) ≡ false → is_in x xs ≡ false
not_left x e [] d n = refl
not_left x e (y ∷ xs) d n = elim (cases_Bool (nat_eq y e)) [
  | inl s ↦ rw (differ y x e (eqb-true y e s) d) (not_left x e xs d (rw (without_same y e xs s) at n))
  | inr s ↦
      let m : is_in x (y ∷ without e xs) ≡ false = rw (without_other y e xs s) at n in
      rw (first_out x y (without e xs) m) (not_left x e xs d (rest_out x y (without e xs) m))
]
