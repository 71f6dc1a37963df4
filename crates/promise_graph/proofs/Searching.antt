-- A bucket is searched for the slots of one list.
use Rattle.std.proofs.Common.{◌≡◌, ◌∙◌, ℕ, zero, suc, ◌+◌, ◌-◌, ◌<◌, List, [], ◌∷◌, ◌++◌, Option, None, Some, Bool, true, false, cond, length, drop, arith, refl, sym, ap, inl, inr, slice_get}
use Rattle.std.specs.Prelude.{nat_eq, find, filter, ◌||◌}
use Rattle.std.specs.List.{IsDistinct}
use Rattle.std.proofs.lemmas.Bool.{false≢true, eqb-true, eq-eqb, cases_Bool}
use Rattle.kj_base.specs.Queue.{first_of}
use Rattle.linked_lists.specs.Lists.{is_in, place_of}
use Rattle.linked_lists.proofs.Paths.{apart_first, apart_rest, rest_in}
use Rattle.promise_graph.proofs.Lists.{none_some, some_same}
use Rattle.promise_graph.proofs.Buckets.{in_filtered, not_true, and_second}

place_same : (p x : ℕ) (xs : List ℕ) → nat_eq x p ≡ true → place_of p (x ∷ xs) ≡ 0
place_same p x xs h = rw h refl

place_other : (p x : ℕ) (xs : List ℕ) → nat_eq x p ≡ false → place_of p (x ∷ xs) ≡ 1 + place_of p xs
place_other p x xs h = rw h refl

place_before : (p : ℕ) (xs : List ℕ) → is_in p xs ≡ true → place_of p xs < length xs
place_before p [] n = absurd (false≢true n)
place_before p (x ∷ xs) n = elim (cases_Bool (nat_eq x p)) [
  | inl s ↦ let k = place_same p x xs s in omega arith
  | inr s ↦ let k = place_other p x xs s in let r = place_before p xs (rest_in p x xs s n) in omega arith
]

in_first : (s x : ℕ) (xs : List ℕ) → x ≡ s → is_in s (x ∷ xs) ≡ true
in_first s x xs e = ap (λ (t : Bool). t || is_in s xs) (eq-eqb x s e)

in_more : (s x : ℕ) (xs : List ℕ) → is_in s xs ≡ true → is_in s (x ∷ xs) ≡ true
in_more s x xs h = or_case (nat_eq x s) (is_in s xs) h
  where
    or_case : (c d : Bool) → d ≡ true → (c || d) ≡ true
    or_case true d h = refl
    or_case false d h = h

in_at : (xs : List ℕ) (j s : ℕ) → slice_get xs j ≡ Some s → is_in s xs ≡ true
in_at [] j s h = absurd (none_some s h)
in_at (x ∷ xs) zero s h = in_first s x xs (some_same x s h)
in_at (x ∷ xs) (suc j) s h = in_more s x xs (in_at xs j s h)

differs_in : (x s : ℕ) (xs : List ℕ) → is_in x xs ≡ false → is_in s xs ≡ true → nat_eq x s ≡ false
differs_in x s xs out h = not_true (nat_eq x s) (λ t. false≢true (sym out ∙ ap (λ (n : ℕ). is_in n xs) (eqb-true x s t) ∙ h))

pub place_here : (xs : List ℕ) (j s : ℕ) → IsDistinct nat_eq xs → slice_get xs j ≡ Some s → place_of s xs ≡ j
place_here [] j s d h = absurd (none_some s h)
place_here (x ∷ xs) zero s d h = place_same s x xs (eq-eqb x s (some_same x s h))
place_here (x ∷ xs) (suc j) s d h =
    let k = place_other s x xs (differs_in x s xs (apart_first x xs d) (in_at xs j s h)) in
    let r = place_here xs j s (apart_rest x xs d) h in
    omega arith

find_from : (p : ℕ → Bool) (xs : List ℕ) (j s : ℕ) → slice_get xs j ≡ Some s → find p (drop j xs) ≡ cond (p s) (Some s) (find p (drop (suc j) xs))
find_from p [] j s h = absurd (none_some s h)
find_from p (x ∷ xs) zero s h = let e = some_same x s h in ap (λ (n : ℕ). cond (p n) (Some n) (find p xs)) e
find_from p (x ∷ xs) (suc j) s h = find_from p xs j s h

-- a slot of the list is found
pub find_here : (p : ℕ → Bool) (xs : List ℕ) (j s : ℕ) → slice_get xs j ≡ Some s → p s ≡ true → find p (drop j xs) ≡ Some s
find_here p xs j s h t = find_from p xs j s h ∙ ap (λ (b : Bool). cond b (Some s) (find p (drop (suc j) xs))) t

-- none is found behind the last slot
pub find_past : (p : ℕ → Bool) (xs : List ℕ) (j : ℕ) → slice_get xs j ≡ None → find p (drop j xs) ≡ None
find_past p [] zero h = refl
find_past p [] (suc j) h = refl
find_past p (x ∷ xs) zero h = absurd (none_some x (sym h))
find_past p (x ∷ xs) (suc j) h = find_past p xs j h

-- the next place, behind a slot of another list
pub step_place : (xs : List ℕ) (j s : ℕ) (o : Option ℕ) → IsDistinct nat_eq xs → slice_get xs j ≡ Some s → o ≡ slice_get xs (place_of s xs + 1) → o ≡ slice_get xs (suc j)
step_place xs j s o d h e = e ∙ ap (slice_get xs) (let r = place_here xs j s d h in omega arith)

pub step_found : (p : ℕ → Bool) (xs : List ℕ) (j s : ℕ) → slice_get xs j ≡ Some s → p s ≡ false → find p (drop (suc j) xs) ≡ find p (drop j xs)
step_found p xs j s h t = sym (find_from p xs j s h ∙ ap (λ (b : Bool). cond b (Some s) (find p (drop (suc j) xs))) t)

-- how many places are left, from a slot on
abbrev pub places_left : List ℕ → Option ℕ → ℕ
places_left xs None = 0
places_left xs (Some s) = length xs - place_of s xs

pub places_fall : (xs : List ℕ) (s : ℕ) (o : Option ℕ) → is_in s xs ≡ true → IsDistinct nat_eq xs → o ≡ slice_get xs (place_of s xs + 1) → places_left xs o < places_left xs (Some s)
places_fall xs s None i d h = let l = place_before s xs i in omega arith
places_fall xs s (Some t) i d h =
    let l = place_before s xs i in
    let p = place_here xs (place_of s xs + 1) t d (sym h) in
    omega arith

first_case : (b : Bool) (x : ℕ) (ys : List ℕ) (o : Option ℕ) → o ≡ first_of ys → cond b (Some x) o ≡ first_of (cond b (x ∷ ys) ys)
first_case true x ys o h = refl
first_case false x ys o h = h

-- the first that is found is the first of all
pub find_first : (p : ℕ → Bool) (xs : List ℕ) → find p xs ≡ first_of (filter p xs)
find_first p [] = refl
find_first p (x ∷ xs) = first_case (p x) x (filter p xs) (find p xs) (find_first p xs)

pub nil_more : (front : List ℕ) (s : ℕ) (back : List ℕ) → ◌≡◌ {A = List ℕ} [] (front ++ s ∷ back) → ⊥
nil_more [] s back e = cc
nil_more (y ∷ ys) s back e = cc

in_middle : (front : List ℕ) (s : ℕ) (back : List ℕ) → is_in s (front ++ s ∷ back) ≡ true
in_middle [] s back = in_first s s back refl
in_middle (y ∷ ys) s back = in_more s y (ys ++ s ∷ back) (in_middle ys s back)

pub tail_same : (x y : ℕ) (xs ys : List ℕ) → ◌≡◌ {A = List ℕ} (x ∷ xs) (y ∷ ys) → xs ≡ ys
tail_same x y xs ys e = cc

pub head_same : (x y : ℕ) (xs ys : List ℕ) → ◌≡◌ {A = List ℕ} (x ∷ xs) (y ∷ ys) → x ≡ y
head_same x y xs ys e = cc

module _ (p : ℕ → Bool) (s : ℕ) (back : List ℕ) where
  here_case : (x : ℕ) (xs front : List ℕ) → x ≡ s → IsDistinct nat_eq (x ∷ xs) → x ∷ filter p xs ≡ front ++ s ∷ back → filter p xs ≡ back
  here_case x xs [] e d h = tail_same x s (filter p xs) back h
  here_case x xs (y ∷ ys) e d h = absurd (false≢true (
      sym (apart_first x xs d)
      ∙ ap (λ (n : ℕ). is_in n xs) e
      ∙ and_second (p s) (is_in s xs) (sym (in_filtered p s xs) ∙ ap (is_in s) (tail_same x y (filter p xs) (ys ++ s ∷ back) h) ∙ in_middle ys s back)
      ))

  rest_case : (x : ℕ) (xs front : List ℕ) → nat_eq x s ≡ false → x ∷ filter p xs ≡ front ++ s ∷ back → (ys : List ℕ) × (filter p xs ≡ ys ++ s ∷ back)
  rest_case x xs [] d h = absurd (false≢true (sym d ∙ eq-eqb x s (head_same x s (filter p xs) back h)))
  rest_case x xs (y ∷ ys) d h = (ys, tail_same x y (filter p xs) (ys ++ s ∷ back) h)

  first_rest : (b : Bool) (x : ℕ) (xs front : List ℕ) → nat_eq x s ≡ false → cond b (x ∷ filter p xs) (filter p xs) ≡ front ++ s ∷ back → (ys : List ℕ) × (filter p xs ≡ ys ++ s ∷ back)
  first_rest true x xs front d h = rest_case x xs front d h
  first_rest false x xs front d h = (front, h)

  -- the next slot of the same list
  pub found_behind : (xs front : List ℕ) → IsDistinct nat_eq xs → p s ≡ true → filter p xs ≡ front ++ s ∷ back → find p (drop (place_of s xs + 1) xs) ≡ first_of back
  found_behind [] front d t h = absurd (nil_more front s back h)
  found_behind (x ∷ xs) front d t h = elim (cases_Bool (nat_eq x s)) [
    | inl e ↦
        let same = eqb-true x s e in
        let at : place_of s (x ∷ xs) + 1 ≡ suc 0 = let k = place_same s x xs e in omega arith in
        ap (λ (n : ℕ). find p (drop n (x ∷ xs))) at
        ∙ find_first p xs
        ∙ ap first_of (here_case x xs front same d (sym (ap (λ (b : Bool). cond b (x ∷ filter p xs) (filter p xs)) (ap p same ∙ t)) ∙ h))
    | inr e ↦
        let at : place_of s (x ∷ xs) + 1 ≡ suc (place_of s xs + 1) = let k = place_other s x xs e in omega arith in
        let r = first_rest (p x) x xs front e h in
        ap (λ (n : ℕ). find p (drop n (x ∷ xs))) at ∙ found_behind xs r.0 (apart_rest x xs d) t r.1
  ]
