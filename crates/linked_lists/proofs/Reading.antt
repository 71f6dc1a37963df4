-- What one link tells of a ring.
use Rattle.std.proofs.Common.{suc, ◌≡◌, ◌≢◌, ◌∙◌, ℕ, ◌+◌, ◌<◌, List, [], ◌∷◌, length, true, false, arith, refl, sym, ap, subst, inl, inr, get_or, Some, None, slice_get}
use Rattle.std.specs.Prelude.{nat_eq, insert}
use Rattle.std.specs.List.{AllByRecursion, IsDistinct}
use Rattle.std.proofs.lemmas.Bool.{false≢true, eqb-true, eqb-false, ne_eqb, eq-eqb, cases_Bool}
use Rattle.std.proofs.lemmas.List.{get_or_default}
use Rattle.std.proofs.lemmas.List.FromFn.{length-map-range_with_len}
use Rattle.linked_lists.specs.declared.Link.{Link}
use Rattle.linked_lists.specs.declared.LinkedLists.TheInside.{Inside}
use Rattle.linked_lists.specs.Lists.{members, is_in, place_of, with_before, with_behind, alone, next_of, previous_of, list_of, view_of, IsPath, IsRing}
use Rattle.linked_lists.proofs.Paths.{first_out, rest_out, rest_in, apart_first, apart_rest, place_here, place_later, first_has, last_has}
use Rattle.linked_lists.proofs.Rings.{seen}

pub next_read : (links : List Link) (i : ℕ) (x : Link) → i < length links → x ≡ get_or links i x → next_of links i ≡ x.next
next_read links i x l e = ap (λ (y : Link). y.next) (sym (e ∙ get_or_default links i x (alone i) l))

pub previous_read : (links : List Link) (i : ℕ) (x : Link) → i < length links → x ≡ get_or links i x → previous_of links i ≡ x.previous
previous_read links i x l e = ap (λ (y : Link). y.previous) (sym (e ∙ get_or_default links i x (alone i) l))

-- what is seen of the links
pub size_is : (lists : Inside) (now : List (List ℕ)) → view_of lists ≡ now → length now ≡ length lists.links.items
size_is lists now e = ap length (sym e) ∙ length-map-range_with_len (list_of lists.links.items) 0 (length lists.links.items)

pub members_are : (lists : Inside) (now : List (List ℕ)) (head : ℕ) → view_of lists ≡ now → members now head ≡ list_of lists.links.items head
members_are lists now head e = ap (λ xs. members xs head) (sym e) ∙ seen lists.links.items head

module _ (next previous : ℕ → ℕ) where
  -- a number stands alone where it is its own neighbour
  pub alone_list : (n head : ℕ) (xs : List ℕ) → IsRing next previous n head xs → next head ≡ head → xs ≡ []
  alone_list n head [] r e = refl
  alone_list n head (x ∷ xs) r e = absurd (eqb-false x head (first_out head x xs (apart_first head (x ∷ xs) r.apart)) (sym r.path.0 ∙ e))

  pub list_alone : (n head : ℕ) (xs : List ℕ) → IsRing next previous n head xs → xs ≡ [] → next head ≡ head
  list_alone n head xs r e = let p = subst (λ ys. IsPath next previous head ys head) e r.path in p.0

  -- the first of a path is its beginning's neighbour, or there is none
  none_first : (a b : ℕ) (xs : List ℕ) → IsPath next previous a xs b → is_in b xs ≡ false → next a ≡ b → slice_get xs 0 ≡ None
  none_first a b [] p o e = refl
  none_first a b (x ∷ xs) p o e = absurd (eqb-false x b (first_out b x xs o) (sym p.0 ∙ e))

  some_first : (a b : ℕ) (xs : List ℕ) → IsPath next previous a xs b → next a ≢ b → slice_get xs 0 ≡ Some (next a)
  some_first a b [] p d = absurd (d p.0)
  some_first a b (x ∷ xs) p d = ap Some (sym p.0)

  pub first_none : (n head : ℕ) (xs : List ℕ) → IsRing next previous n head xs → next head ≡ head → slice_get xs 0 ≡ None
  first_none n head xs r e = none_first head head xs r.path (apart_first head xs r.apart) e

  pub first_some : (n head : ℕ) (xs : List ℕ) → IsRing next previous n head xs → next head ≢ head → slice_get xs 0 ≡ Some (next head)
  first_some n head xs r d = some_first head head xs r.path d

  behind_here : (m x : ℕ) (xs : List ℕ) → nat_eq x m ≡ true → slice_get (x ∷ xs) (place_of m (x ∷ xs) + 1) ≡ slice_get xs 0
  behind_here m x xs h = rw h refl

  two_more : (i x : ℕ) (xs : List ℕ) → slice_get (x ∷ xs) (1 + i + 1) ≡ slice_get xs (i + 1)
  two_more i x xs = let e : 1 + i + 1 ≡ suc (i + 1) = omega arith in rw e refl

  behind_later : (m x : ℕ) (xs : List ℕ) → nat_eq x m ≡ false → slice_get (x ∷ xs) (place_of m (x ∷ xs) + 1) ≡ slice_get xs (place_of m xs + 1)
  behind_later m x xs h = rw h (two_more (place_of m xs) x xs)

  none_behind : (m a b : ℕ) (xs : List ℕ) → IsPath next previous a xs b → is_in b xs ≡ false → is_in m xs ≡ true → next m ≡ b → slice_get xs (place_of m xs + 1) ≡ None
  none_behind m a b [] p o i e = absurd (false≢true i)
  none_behind m a b (x ∷ xs) p o i e = elim (cases_Bool (nat_eq x m)) [
    | inl s ↦ behind_here m x xs s ∙ none_first x b xs p.2 (rest_out b x xs o) (ap next (eqb-true x m s) ∙ e)
    | inr s ↦ behind_later m x xs s ∙ none_behind m x b xs p.2 (rest_out b x xs o) (rest_in m x xs s i) e
  ]

  some_behind : (m a b : ℕ) (xs : List ℕ) → IsPath next previous a xs b → is_in m xs ≡ true → next m ≢ b → slice_get xs (place_of m xs + 1) ≡ Some (next m)
  some_behind m a b [] p i d = absurd (false≢true i)
  some_behind m a b (x ∷ xs) p i d = elim (cases_Bool (nat_eq x m)) [
    | inl s ↦ let same = eqb-true x m s in behind_here m x xs s ∙ some_first x b xs p.2 (λ e. d (ap next (sym same) ∙ e)) ∙ ap (λ y. Some (next y)) same
    | inr s ↦ behind_later m x xs s ∙ some_behind m x b xs p.2 (rest_in m x xs s i) d
  ]

  pub after_none : (n head m : ℕ) (xs : List ℕ) → IsRing next previous n head xs → is_in m xs ≡ true → next m ≡ head → slice_get xs (place_of m xs + 1) ≡ None
  after_none n head m xs r i e = none_behind m head head xs r.path (apart_first head xs r.apart) i e

  pub after_some : (n head m : ℕ) (xs : List ℕ) → IsRing next previous n head xs → is_in m xs ≡ true → next m ≢ head → slice_get xs (place_of m xs + 1) ≡ Some (next m)
  after_some n head m xs r i d = some_behind m head head xs r.path i d

  pub below_in : (n m : ℕ) (xs : List ℕ) → AllByRecursion (λ x. x < n) xs → is_in m xs ≡ true → m < n
  below_in n m [] h i = absurd (false≢true i)
  below_in n m (x ∷ xs) h i = elim (cases_Bool (nat_eq x m)) [
    | inl s ↦ let e = eqb-true x m s in let l = h.0 in omega arith
    | inr s ↦ below_in n m xs h.1 (rest_in m x xs s i)
  ]

  -- behind one number is before the next
  other_same : (x y : ℕ) → x ≢ y → nat_eq x y ≡ false
  other_same x y d = ne_eqb x y d

  behind_first : (n a b : ℕ) (xs : List ℕ) → IsPath next previous a xs b → with_before (next a) n xs ≡ n ∷ xs
  behind_first n a b [] p = refl
  behind_first n a b (x ∷ xs) p = ap (λ y. with_before y n (x ∷ xs)) p.0 ∙ place_here x n x xs (eq-eqb x x refl)

  insert_here : (n m x : ℕ) (xs : List ℕ) → nat_eq x m ≡ true → insert (x ∷ xs) (place_of m (x ∷ xs) + 1) n ≡ x ∷ n ∷ xs
  insert_here n m x xs h = rw h refl

  insert_two : (n i x : ℕ) (xs : List ℕ) → insert (x ∷ xs) (1 + i + 1) n ≡ x ∷ insert xs (i + 1) n
  insert_two n i x xs = let e : 1 + i + 1 ≡ suc (i + 1) = omega arith in rw e refl

  insert_later : (n m x : ℕ) (xs : List ℕ) → nat_eq x m ≡ false → insert (x ∷ xs) (place_of m (x ∷ xs) + 1) n ≡ x ∷ insert xs (place_of m xs + 1) n
  insert_later n m x xs h = rw h (insert_two n (place_of m xs) x xs)

  outside_ne : (a m : ℕ) (xs : List ℕ) → is_in a xs ≡ false → is_in m xs ≡ true → a ≢ m
  outside_ne a m xs o i e = false≢true (sym o ∙ ap (λ y. is_in y xs) e ∙ i)

  behind_member : (n m a b : ℕ) (xs : List ℕ) → previous (next m) ≡ m → IsPath next previous a xs b → is_in a xs ≡ false → is_in b xs ≡ false → IsDistinct nat_eq xs → is_in m xs ≡ true → with_before (next m) n xs ≡ insert xs (place_of m xs + 1) n
  behind_member n m a b [] t p f o apart i = absurd (false≢true i)
  behind_member n m a b (x ∷ xs) t p f o apart i = elim (cases_Bool (nat_eq x m)) [
    | inl s ↦
        let same = eqb-true x m s in
        let d : nat_eq x (next m) ≡ false = ne_eqb x (next m) (next_other x b xs p.2 (apart_first x xs apart) (eqb-false x b (first_out b x xs o)) m same) in
        place_later (next m) n x xs d ∙ ap (λ ys. x ∷ ys) (ap (λ y. with_before (next y) n xs) (sym same) ∙ behind_first n x b xs p.2) ∙ sym (insert_here n m x xs s)
    | inr s ↦
        let d : nat_eq x (next m) ≡ false = ne_eqb x (next m) (λ e. outside_ne a m (x ∷ xs) f i (sym p.1 ∙ ap previous e ∙ t)) in
        place_later (next m) n x xs d ∙ ap (λ ys. x ∷ ys) (behind_member n m x b xs t p.2 (apart_first x xs apart) (rest_out b x xs o) (apart_rest x xs apart) (rest_in m x xs s i)) ∙ sym (insert_later n m x xs s)
  ]
    where
      next_other : (x b : ℕ) (xs : List ℕ) → IsPath next previous x xs b → is_in x xs ≡ false → x ≢ b → (m : ℕ) → x ≡ m → x ≢ next m
      next_other x b [] p o d m s e = d (e ∙ ap next (sym s) ∙ p.0)
      next_other x b (y ∷ ys) p o d m s e = eqb-false y x (first_out x y ys o) (sym p.0 ∙ ap next s ∙ sym e)

  pub behind_is : (size n head place : ℕ) (xs : List ℕ) → IsRing next previous size head xs → previous (next place) ≡ place → is_in place (head ∷ xs) ≡ true → with_before (next place) n xs ≡ with_behind head place n xs
  behind_is size n head place xs r t i = elim (cases_Bool (nat_eq place head)) [
    | inl s ↦ rw s (ap (λ y. with_before (next y) n xs) (eqb-true place head s) ∙ behind_first n head head xs r.path)
    | inr s ↦
        let d : nat_eq head place ≡ false = ne_eqb head place (λ e. eqb-false place head s (sym e)) in
        let o = apart_first head xs r.apart in
        rw s (behind_member n place head head xs t r.path o o (apart_rest head xs r.apart) (rest_in place head xs d i))
  ]

  -- the next of a number of a ring is in this ring, and of no other number
  first_in : (e x : ℕ) (xs : List ℕ) → x ≡ e → is_in e (x ∷ xs) ≡ true
  first_in e x xs s = rw (eq-eqb x e s) refl

  later_in : (e x : ℕ) (xs : List ℕ) → is_in e xs ≡ true → is_in e (x ∷ xs) ≡ true
  later_in e x xs h = elim (cases_Bool (nat_eq x e)) [ inl s ↦ rw s refl | inr s ↦ rw s h ]

  begins_in : (a b : ℕ) (xs : List ℕ) → IsPath next previous a xs b → is_in (next a) (b ∷ xs) ≡ true
  begins_in a b [] p = first_in (next a) b [] (sym p.0)
  begins_in a b (x ∷ xs) p = later_in (next a) b (x ∷ xs) (first_in (next a) x xs (sym p.0))

  moved_in : (e b x : ℕ) (xs : List ℕ) → is_in e (b ∷ xs) ≡ true → is_in e (b ∷ x ∷ xs) ≡ true
  moved_in e b x xs h = elim (cases_Bool (nat_eq b e)) [ inl s ↦ rw s refl | inr s ↦ later_in e b (x ∷ xs) (later_in e x xs (rest_in e b xs s h)) ]

  goes_in : (a b m : ℕ) (xs : List ℕ) → IsPath next previous a xs b → is_in m xs ≡ true → is_in (next m) (b ∷ xs) ≡ true
  goes_in a b m [] p i = absurd (false≢true i)
  goes_in a b m (x ∷ xs) p i = elim (cases_Bool (nat_eq x m)) [
    | inl s ↦ moved_in (next m) b x xs (subst (λ y. is_in (next y) (b ∷ xs) ≡ true) (eqb-true x m s) (begins_in x b xs p.2))
    | inr s ↦ moved_in (next m) b x xs (goes_in x b m xs p.2 (rest_in m x xs s i))
  ]

  pub next_in : (size head place : ℕ) (xs : List ℕ) → IsRing next previous size head xs → is_in place (head ∷ xs) ≡ true → is_in (next place) (head ∷ xs) ≡ true
  next_in size head place xs r i = elim (cases_Bool (nat_eq head place)) [
    | inl s ↦ subst (λ y. is_in (next y) (head ∷ xs) ≡ true) (eqb-true head place s) (begins_in head head xs r.path)
    | inr s ↦ goes_in head head place xs r.path (rest_in place head xs s i)
  ]

  -- the one before a number of a path
  last_in : (a b : ℕ) (xs : List ℕ) → IsPath next previous a xs b → is_in (previous b) (a ∷ xs) ≡ true
  last_in a b [] p = first_in (previous b) a [] (sym p.1)
  last_in a b (x ∷ xs) p = later_in (previous b) a (x ∷ xs) (last_in x b xs p.2)

  came_in : (a b m : ℕ) (xs : List ℕ) → IsPath next previous a xs b → is_in m xs ≡ true → is_in (previous m) (a ∷ xs) ≡ true
  came_in a b m [] p i = absurd (false≢true i)
  came_in a b m (x ∷ xs) p i = elim (cases_Bool (nat_eq x m)) [
    | inl s ↦ first_in (previous m) a (x ∷ xs) (sym p.1 ∙ ap previous (eqb-true x m s))
    | inr s ↦ later_in (previous m) a (x ∷ xs) (came_in x b m xs p.2 (rest_in m x xs s i))
  ]

  back_in : (size head m : ℕ) (xs : List ℕ) → IsRing next previous size head xs → is_in m (head ∷ xs) ≡ true → is_in (previous m) (head ∷ xs) ≡ true
  back_in size head m xs r i = elim (cases_Bool (nat_eq head m)) [
    | inl s ↦ subst (λ y. is_in (previous y) (head ∷ xs) ≡ true) (eqb-true head m s) (last_in head head xs r.path)
    | inr s ↦ came_in head head m xs r.path (rest_in m head xs s i)
  ]

  pub next_out : (size head place : ℕ) (xs : List ℕ) → IsRing next previous size head xs → previous (next place) ≡ place → is_in place (head ∷ xs) ≡ false → is_in (next place) (head ∷ xs) ≡ false
  next_out size head place xs r t o = elim (cases_Bool (is_in (next place) (head ∷ xs))) [
    | inl i ↦ absurd (false≢true (sym o ∙ subst (λ y. is_in y (head ∷ xs) ≡ true) t (back_in size head (next place) xs r i)))
    | inr k ↦ k
  ]

  pub previous_below : (n head : ℕ) (xs : List ℕ) → IsRing next previous n head xs → head < n → previous head < n
  previous_below n head xs r l = last_has (λ y. y < n) next previous head head xs r.path l r.below

  pub next_below : (n head : ℕ) (xs : List ℕ) → IsRing next previous n head xs → head < n → next head < n
  next_below n head xs r l = first_has (λ y. y < n) next previous head head xs r.path l r.below

  -- a next number other than the head is a member
  pub first_among : (n head : ℕ) (xs : List ℕ) → IsRing next previous n head xs → next head ≢ head → is_in (next head) xs ≡ true
  first_among n head xs r d = rest_in (next head) head xs (ne_eqb head (next head) (λ e. d (sym e))) (begins_in head head xs r.path)

  pub after_among : (n head m : ℕ) (xs : List ℕ) → IsRing next previous n head xs → is_in m xs ≡ true → next m ≢ head → is_in (next m) xs ≡ true
  after_among n head m xs r i d = rest_in (next m) head xs (ne_eqb head (next m) (λ e. d (sym e))) (goes_in head head m xs r.path i)
