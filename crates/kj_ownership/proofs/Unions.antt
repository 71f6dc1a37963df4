-- Two climbs together: a Wrap's tree is freed while other nodes are being evaluated.
use Rattle.std.proofs.Common.{◌≡◌, ◌⊎◌, inl, inr, ℕ, List, [], ◌∷◌, ◌++◌, Bool, true, false, not, cond, refl, sym, ap, subst, ◌||◌}
use Rattle.std.specs.Prelude.{filter}
use Rattle.std.proofs.lemmas.Bool.{false≢true}
use Rattle.kj_model.specs.Nodes.{is_in}
use Rattle.kj_model.specs.World.{World}
use Rattle.kj_model.specs.Free.{Guard}
use Rattle.kj_model.specs.Trees.{AreApart}
use Rattle.kj_model.proofs.Members.{in_either, in_left, in_right, in_one, in_none}
use Rattle.kj_model.proofs.Once.{both_ways, false_by, apart_join}
use Rattle.kj_ownership.proofs.Flat.{Open}

-- the second list without what stands in the first
abbrev pub rest_of : List ℕ → List ℕ → List ℕ
rest_of xs ys = filter (λ y. not (is_in y xs)) ys

abbrev pub union : List ℕ → List ℕ → List ℕ
union xs ys = xs ++ rest_of xs ys

kept_more : (p : ℕ → Bool) (m y : ℕ) (ys : List ℕ) → (is_in m (filter p ys) ≡ true → (is_in m ys ≡ true) × (p m ≡ true)) → is_in m (filter p (y ∷ ys)) ≡ true → (is_in m (y ∷ ys) ≡ true) × (p m ≡ true)
kept_more p m y ys ih i = decide (p y) refl
  where
    decide : (b : Bool) → p y ≡ b → (is_in m (y ∷ ys) ≡ true) × (p m ≡ true)
    decide true e =
        let same : is_in m (y ∷ filter p ys) ≡ true = subst (λ (b : Bool). is_in m (cond b (y ∷ filter p ys) (filter p ys)) ≡ true) e i in
        elim (in_either m (y ∷ []) (filter p ys) same) [
          | inl a ↦ (in_left m (y ∷ []) ys a, subst (λ (z : ℕ). p z ≡ true) (in_one m y a) e)
          | inr b ↦ (let r = ih b in (in_right m (y ∷ []) ys r.0, r.1))
        ]
    decide false e = let r = ih (subst (λ (b : Bool). is_in m (cond b (y ∷ filter p ys) (filter p ys)) ≡ true) e i) in (in_right m (y ∷ []) ys r.0, r.1)

pub in_kept : (p : ℕ → Bool) (m : ℕ) (ys : List ℕ) → is_in m (filter p ys) ≡ true → (is_in m ys ≡ true) × (p m ≡ true)
in_kept p m [] i = absurd (in_none m i)
in_kept p m (y ∷ ys) i = kept_more p m y ys (in_kept p m ys) i

keeps_more : (p : ℕ → Bool) (m y : ℕ) (ys : List ℕ) → p m ≡ true → (is_in m ys ≡ true → is_in m (filter p ys) ≡ true) → is_in m (y ∷ ys) ≡ true → is_in m (filter p (y ∷ ys)) ≡ true
keeps_more p m y ys h ih i = decide (p y) refl
  where
    decide : (b : Bool) → p y ≡ b → is_in m (filter p (y ∷ ys)) ≡ true
    decide true e = subst (λ (b : Bool). is_in m (cond b (y ∷ filter p ys) (filter p ys)) ≡ true) (sym e) (elim (in_either m (y ∷ []) ys i) [ inl a ↦ in_left m (y ∷ []) (filter p ys) a | inr b ↦ in_right m (y ∷ []) (filter p ys) (ih b) ])
    decide false e = subst (λ (b : Bool). is_in m (cond b (y ∷ filter p ys) (filter p ys)) ≡ true) (sym e) (elim (in_either m (y ∷ []) ys i) [ inl a ↦ absurd (both_ways (p y) (subst (λ (z : ℕ). p z ≡ true) (sym (in_one m y a)) h) e) | inr b ↦ ih b ])

pub keeps_in : (p : ℕ → Bool) (m : ℕ) (ys : List ℕ) → p m ≡ true → is_in m ys ≡ true → is_in m (filter p ys) ≡ true
keeps_in p m [] h i = absurd (in_none m i)
keeps_in p m (y ∷ ys) h i = keeps_more p m y ys h (keeps_in p m ys h) i

apart_step : (p : ℕ → Bool) (y : ℕ) (ys : List ℕ) (b : Bool) → is_in y ys ≡ false → AreApart (filter p ys) → AreApart (cond b (y ∷ filter p ys) (filter p ys))
apart_step p y ys true f a = (false_by (is_in y (filter p ys)) (λ i. both_ways (is_in y ys) (in_kept p y ys i).0 f), a)
apart_step p y ys false f a = a

apart_kept : (p : ℕ → Bool) (ys : List ℕ) → AreApart ys → AreApart (filter p ys)
apart_kept p [] a = tt
apart_kept p (y ∷ ys) a = apart_step p y ys (p y) a.0 (apart_kept p ys a.1)

-- what stands in a union
pub in_union : (m : ℕ) (xs ys : List ℕ) → is_in m (union xs ys) ≡ true → (is_in m xs ≡ true) ⊎ (is_in m ys ≡ true)
in_union m xs ys i = elim (in_either m xs (rest_of xs ys) i) [ inl a ↦ inl a | inr b ↦ inr (in_kept (λ y. not (is_in y xs)) m ys b).0 ]

pub first_union : (m : ℕ) (xs ys : List ℕ) → is_in m xs ≡ true → is_in m (union xs ys) ≡ true
first_union m xs ys i = in_left m xs (rest_of xs ys) i

pub second_union : (m : ℕ) (xs ys : List ℕ) → is_in m ys ≡ true → is_in m (union xs ys) ≡ true
second_union m xs ys i = decide (is_in m xs) refl
  where
    decide : (b : Bool) → is_in m xs ≡ b → is_in m (union xs ys) ≡ true
    decide true e = in_left m xs (rest_of xs ys) e
    decide false e = in_right m xs (rest_of xs ys) (keeps_in (λ y. not (is_in y xs)) m ys (ap not e) i)

-- a path of two
pub open_both : (guard : Guard) (w : World) (xs ys : List ℕ) → Open guard w [] [] xs → Open guard w [] [] ys → Open guard w [] [] (union xs ys)
open_both guard w xs ys a b = record {
  up = λ x q i own. elim (in_union x xs ys i) [ inl j ↦ first_union q xs ys (a.up x q j own) | inr j ↦ second_union q xs ys (b.up x q j own) ];
  lost = λ h i u. elim (in_union h xs ys i) [
    | inl j ↦ elim (a.lost h j u) [ inl f ↦ inl (λ m at. wider m xs (first_union m xs ys) (f m at)) | inr g ↦ inr (λ gone d. g gone (λ m k. false_by (is_in m xs) (λ l. both_ways (is_in m (union xs ys)) (first_union m xs ys l) (d m k)))) ]
    | inr j ↦ elim (b.lost h j u) [ inl f ↦ inl (λ m at. wider m ys (second_union m xs ys) (f m at)) | inr g ↦ inr (λ gone d. g gone (λ m k. false_by (is_in m ys) (λ l. both_ways (is_in m (union xs ys)) (second_union m xs ys l) (d m k)))) ]
  ];
  way_in = λ m i. absurd (in_none m i);
  apart = apart_join xs (rest_of xs ys) a.apart (apart_kept (λ y. not (is_in y xs)) ys b.apart) (λ m i. not_true (is_in m xs) (in_kept (λ y. not (is_in y xs)) m ys i).1);
  live = λ m i. elim (in_union m xs ys i) [ inl j ↦ a.live m j | inr j ↦ b.live m j ];
  off = λ m i. absurd (in_none m i);
}
  where
    not_true : (b : Bool) → not b ≡ true → b ≡ false
    not_true true e = absurd (false≢true e)
    not_true false e = refl

    none_right : (b : Bool) → (b || false) ≡ true → b ≡ true
    none_right true e = e
    none_right false e = e

    wider : (m : ℕ) (zs : List ℕ) → (is_in m zs ≡ true → is_in m (union xs ys) ≡ true) → (is_in m zs || is_in m []) ≡ true → (is_in m (union xs ys) || is_in m []) ≡ true
    wider m zs h e = ap (λ c. c || false) (h (none_right (is_in m zs) e))
