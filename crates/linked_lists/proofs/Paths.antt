-- Paths from number to number, and what a new neighbour or one that leaves makes of them.
use Rattle.std.proofs.Common.{zero, suc, ◌≡◌, ◌≢◌, ◌∙◌, ℕ, ◌+◌, ◌≤◌, List, [], ◌∷◌, length, true, false, arith, refl, sym, ap, inl, inr, ◌⊎◌}
use Rattle.std.specs.Prelude.{nat_eq, insert}
use Rattle.std.specs.List.{AllByRecursion, IsDistinct}
use Rattle.std.proofs.lemmas.Bool.{false≢true, or_parts, eqb-true, eqb-false, ne_eqb, eq-eqb, cases_Bool}
use Rattle.std.proofs.lemmas.Bool.Decides.{nat_tests}
use Rattle.linked_lists.specs.Lists.{is_in, place_of, with_before, without, walk, IsPath}

pub swapped : (a b : ℕ) → nat_eq a b ≡ false → nat_eq b a ≡ false
swapped a b h = grind (arith, nat_tests)

pub lacks : (e : ℕ) (xs : List ℕ) → AllByRecursion (λ y. nat_eq e y ≡ false) xs → is_in e xs ≡ false
lacks e [] h = refl
lacks e (x ∷ xs) h = rw (swapped e x h.0) (lacks e xs h.1)

pub outside : (e : ℕ) (xs : List ℕ) → is_in e xs ≡ false → AllByRecursion (λ y. nat_eq e y ≡ false) xs
outside e [] h = tt
outside e (x ∷ xs) h = let p = or_parts (nat_eq x e) (is_in e xs) h in (swapped x e p.0, outside e xs p.1)

-- a number that isn't a member isn't the first, and isn't among the others
pub first_out : (e x : ℕ) (xs : List ℕ) → is_in e (x ∷ xs) ≡ false → nat_eq x e ≡ false
first_out e x xs h = (or_parts (nat_eq x e) (is_in e xs) h).0

pub rest_out : (e x : ℕ) (xs : List ℕ) → is_in e (x ∷ xs) ≡ false → is_in e xs ≡ false
rest_out e x xs h = (or_parts (nat_eq x e) (is_in e xs) h).1

pub rest_in : (e x : ℕ) (xs : List ℕ) → nat_eq x e ≡ false → is_in e (x ∷ xs) ≡ true → is_in e xs ≡ true
rest_in e x xs n h = rw n at h

pub apart_first : (x : ℕ) (xs : List ℕ) → IsDistinct nat_eq (x ∷ xs) → is_in x xs ≡ false
unfolding IsDistinct
apart_first x xs h = lacks x xs h.0

pub apart_rest : (x : ℕ) (xs : List ℕ) → IsDistinct nat_eq (x ∷ xs) → IsDistinct nat_eq xs
unfolding IsDistinct
apart_rest x xs h = h.1

pub apart_cons : (x : ℕ) (xs : List ℕ) → is_in x xs ≡ false → IsDistinct nat_eq xs → IsDistinct nat_eq (x ∷ xs)
unfolding IsDistinct
apart_cons x xs n h = (outside x xs n, h)

-- the walk takes a path whole
pub walk_is : (next previous : ℕ → ℕ) (k a b : ℕ) (xs : List ℕ) → IsPath next previous a xs b → is_in b xs ≡ false → length xs ≤ k → walk next k (next a) b ≡ xs
walk_is next previous zero a b [] p n l = refl
walk_is next previous zero a b (x ∷ xs) p n l = absurd (omega arith)
walk_is next previous (suc k) a b [] p n l = rw (p.0, eq-eqb b b refl) refl
walk_is next previous (suc k) a b (x ∷ xs) p n l = rw (p.0, first_out b x xs n) (ap (λ ys. x ∷ ys) (walk_is next previous k x b xs p.2 (rest_out b x xs n) (omega arith)))

-- what the last leads to
pub comes_back : (next previous : ℕ → ℕ) (a b : ℕ) (xs : List ℕ) → IsPath next previous a xs b → next (previous b) ≡ b
comes_back next previous a b [] p = ap next p.1 ∙ p.0
comes_back next previous a b (x ∷ xs) p = comes_back next previous x b xs p.2

pub goes_back : (next previous : ℕ → ℕ) (a b : ℕ) (xs : List ℕ) → IsPath next previous a xs b → previous (next a) ≡ a
goes_back next previous a b [] p = ap previous p.0 ∙ p.1
goes_back next previous a b (x ∷ xs) p = ap previous p.0 ∙ p.1

-- what holds of the first number and of the members holds of the last
pub last_has : (P : ℕ → Type 0) (next previous : ℕ → ℕ) (a b : ℕ) (xs : List ℕ) → IsPath next previous a xs b → P a → AllByRecursion P xs → P (previous b)
last_has P next previous a b [] p h k = rw p.1 h
last_has P next previous a b (x ∷ xs) p h k = last_has P next previous x b xs p.2 k.0 k.1

pub first_has : (P : ℕ → Type 0) (next previous : ℕ → ℕ) (a b : ℕ) (xs : List ℕ) → IsPath next previous a xs b → P b → AllByRecursion P xs → P (next a)
first_has P next previous a b [] p h k = rw p.0 h
first_has P next previous a b (x ∷ xs) p h k = rw p.0 k.0

-- a number that stands alone is in no other path
pub without_alone : (next previous : ℕ → ℕ) (n a b : ℕ) (xs : List ℕ) → previous n ≡ n → IsPath next previous a xs b → a ≢ n → is_in n xs ≡ false
without_alone next previous n a b [] e p d = refl
without_alone next previous n a b (x ∷ xs) e p d =
    let f : x ≢ n = λ s. d (sym p.1 ∙ ap previous s ∙ e) in
    rw (ne_eqb x n f) (without_alone next previous n x b xs e p.2 f)

-- where the new number goes
pub place_here : (e n x : ℕ) (xs : List ℕ) → nat_eq x e ≡ true → with_before e n (x ∷ xs) ≡ n ∷ x ∷ xs
place_here e n x xs h = rw h refl

pub one_more : (n i x : ℕ) (xs : List ℕ) → insert (x ∷ xs) (1 + i) n ≡ x ∷ insert xs i n
one_more n i x xs = let e : 1 + i ≡ suc i = omega arith in rw e refl

pub place_later : (e n x : ℕ) (xs : List ℕ) → nat_eq x e ≡ false → with_before e n (x ∷ xs) ≡ x ∷ with_before e n xs
place_later e n x xs h = rw h (one_more n (place_of e xs) x xs)

pub path_by : (next previous : ℕ → ℕ) (a b : ℕ) (xs ys : List ℕ) → xs ≡ ys → IsPath next previous a ys b → IsPath next previous a xs b
path_by next previous a b xs ys e p = rw e p

-- a number goes directly before another one
module _ (next previous next' previous' : ℕ → ℕ) (place number : ℕ)
    (to_new : next' (previous place) ≡ number) (from_new : next' number ≡ place)
    (back_new : previous' number ≡ previous place) (back_place : previous' place ≡ number)
    (others_next : (x : ℕ) → x ≢ previous place → x ≢ number → next' x ≡ next x)
    (others_previous : (x : ℕ) → x ≢ place → x ≢ number → previous' x ≡ previous x)
    (round : next (previous place) ≡ place) where
  -- a step that doesn't lead to the place stays
  same_next : (a b : ℕ) → next a ≡ b → b ≢ place → a ≢ number → next' a ≡ b
  same_next a b p d n = others_next a (λ e. d (sym p ∙ ap next e ∙ round)) n ∙ p

  before_is : (a b : ℕ) → previous b ≡ a → b ≡ place → previous place ≡ a
  before_is a b q e = ap previous (sym e) ∙ q

  pub stays : (a b : ℕ) (xs : List ℕ) → IsPath next previous a xs b → is_in place xs ≡ false → b ≢ place → is_in number xs ≡ false → a ≢ number → b ≢ number → IsPath next' previous' a xs b
  stays a b [] p o d u v w = (same_next a b p.0 d v, others_previous b d w ∙ p.1)
  stays a b (x ∷ xs) p o d u v w =
      let x_place = eqb-false x place (first_out place x xs o) in
      let x_number = eqb-false x number (first_out number x xs u) in
      (same_next a x p.0 x_place v, others_previous x x_place x_number ∙ p.1, stays x b xs p.2 (rest_out place x xs o) d (rest_out number x xs u) x_number w)

  -- the path up to the place, which is its end, ends at the number now
  pub shortened : (a : ℕ) (xs : List ℕ) → IsPath next previous a xs place → is_in place xs ≡ false → is_in number xs ≡ false → a ≢ number → IsPath next' previous' a xs number
  shortened a [] p o u v = (ap next' (sym p.1) ∙ to_new, back_new ∙ p.1)
  shortened a (x ∷ xs) p o u v =
      let x_place = eqb-false x place (first_out place x xs o) in
      let x_number = eqb-false x number (first_out number x xs u) in
      (same_next a x p.0 x_place v, others_previous x x_place x_number ∙ p.1, shortened x xs p.2 (rest_out place x xs o) (rest_out number x xs u) x_number)

  here : (a b x : ℕ) (xs : List ℕ) → x ≡ place → IsPath next previous a (x ∷ xs) b → IsPath next' previous' x xs b → IsPath next' previous' a (number ∷ x ∷ xs) b
  here a b x xs e p rest =
      let f = before_is a x p.1 e in
      (ap next' (sym f) ∙ to_new, back_new ∙ f, (from_new ∙ sym e, ap previous' e ∙ back_place, rest))

  pub with_new : (a b : ℕ) (xs : List ℕ) → IsPath next previous a xs b → is_in number xs ≡ false → a ≢ number → b ≢ number → IsDistinct nat_eq xs → is_in b xs ≡ false → (nat_eq b place ≡ true) ⊎ (is_in place xs ≡ true) → IsPath next' previous' a (with_before place number xs) b
  with_new a b [] p u v w apart out (inl e) =
      let same = eqb-true b place e in
      let f = before_is a b p.1 same in
      (ap next' (sym f) ∙ to_new, back_new ∙ f, (from_new ∙ sym same, ap previous' same ∙ back_place))
  with_new a b [] p u v w apart out (inr i) = absurd (false≢true i)
  with_new a b (x ∷ xs) p u v w apart out i =
      let x_number = eqb-false x number (first_out number x xs u) in
      let b_x = first_out b x xs out in
      elim (cases_Bool (nat_eq x place)) [
        | inl e ↦
            let same = eqb-true x place e in
            let b_place : b ≢ place = λ s. eqb-false x b b_x (same ∙ sym s) in
            path_by next' previous' a b _ _ (place_here place number x xs e)
            (here a b x xs same p (stays x b xs p.2 (rw (← same) (apart_first x xs apart)) b_place (rest_out number x xs u) x_number w))
        | inr e ↦
            path_by next' previous' a b _ _ (place_later place number x xs e) (
              same_next a x p.0 (eqb-false x place e) v,
              others_previous x (eqb-false x place e) x_number ∙ p.1,
              with_new x b xs p.2 (rest_out number x xs u) x_number w (apart_rest x xs apart) (rest_out b x xs out)
                  (elim i [ inl k ↦ inl k | inr k ↦ inr (rest_in place x xs e k) ]),
            )
      ]

pub without_same : (x m : ℕ) (xs : List ℕ) → nat_eq x m ≡ true → without m (x ∷ xs) ≡ without m xs
without_same x m xs e = rw e refl

pub without_other : (x m : ℕ) (xs : List ℕ) → nat_eq x m ≡ false → without m (x ∷ xs) ≡ x ∷ without m xs
without_other x m xs e = rw e refl

-- a number leaves
module _ (next previous next' previous' : ℕ → ℕ) (m : ℕ)
    (over : previous m ≢ m → next' (previous m) ≡ next m) (back : next m ≢ m → previous' (next m) ≡ previous m)
    (others_next : (x : ℕ) → x ≢ previous m → x ≢ m → next' x ≡ next x)
    (others_previous : (x : ℕ) → x ≢ next m → x ≢ m → previous' x ≡ previous x)
    (round : next (previous m) ≡ m) (back_round : previous (next m) ≡ m) where
  step : (a b : ℕ) → next a ≡ b → previous b ≡ a → a ≢ m → b ≢ m → (next' a ≡ b) × (previous' b ≡ a)
  step a b p q d e = (others_next a (λ s. e (sym p ∙ ap next s ∙ round)) d ∙ p, others_previous b (λ s. d (sym q ∙ ap previous s ∙ back_round)) e ∙ q)

  bridge : (a b : ℕ) → previous m ≡ a → next m ≡ b → a ≢ m → b ≢ m → (next' a ≡ b) × (previous' b ≡ a)
  bridge a b p q d e = (ap next' (sym p) ∙ over (λ s. d (sym p ∙ s)) ∙ q, ap previous' (sym q) ∙ back (λ s. e (sym q ∙ s)) ∙ p)

  cut_at : (a b x : ℕ) (xs : List ℕ) → next a ≡ x → previous x ≡ a → a ≢ m → (x ≢ m → IsPath next' previous' x (without m xs) b) → (x ≡ m → IsPath next' previous' a (without m xs) b) → IsPath next' previous' a (without m (x ∷ xs)) b
  cut_at a b x xs p q d rest gone = elim (cases_Bool (nat_eq x m)) [
    | inl e ↦ path_by next' previous' a b _ _ (without_same x m xs e) (gone (eqb-true x m e))
    | inr e ↦ path_by next' previous' a b _ _ (without_other x m xs e) (let s = step a x p q d (eqb-false x m e) in (s.0, s.1, rest (eqb-false x m e)))
  ]

  pub cut : (a b : ℕ) (xs : List ℕ) → IsPath next previous a xs b → a ≢ m → b ≢ m → IsPath next' previous' a (without m xs) b
  cut a b [] p d e = step a b p.0 p.1 d e
  cut a b (x ∷ []) p d e =
      cut_at a b x [] p.0 p.1 d (λ n. cut x b [] p.2 n e) (λ s. bridge a b (ap previous (sym s) ∙ p.1) (ap next (sym s) ∙ p.2.0) d e)
  cut a b (x ∷ y ∷ ys) p d e =
      cut_at a b x (y ∷ ys) p.0 p.1 d (λ n. cut x b (y ∷ ys) p.2 n e)
      (λ s.
      let y_m : y ≢ m = λ t. d (sym p.1 ∙ ap previous (s ∙ sym t) ∙ p.2.1 ∙ s) in
      let h = bridge a y (ap previous (sym s) ∙ p.1) (ap next (sym s) ∙ p.2.0) d y_m in
      path_by next' previous' a b _ _ (without_other y m ys (ne_eqb y m y_m)) (h.0, h.1, cut y b ys p.2.2 y_m e))
