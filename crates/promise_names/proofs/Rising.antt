-- Names by rising number, as names come and go.
use Rattle.std.proofs.Common.{◌≡◌, ◌∙◌, ℕ, ◌<◌, List, [], ◌∷◌, cond, Option, None, Some, Bool, true, false, not, arith, refl, sym, ap, subst}
use Rattle.std.specs.Prelude.{nat_eq, nat_lt}
use Rattle.std.specs.List.{AllByRecursion}
use Rattle.std.proofs.lemmas.Bool.Decides.{nat_tests}
use Rattle.kj_model.specs.World.{World, Named, Held, held_at}
use Rattle.kj_model.specs.Changes.{without_name, with_new}
use Rattle.promise_names.specs.Once.{AreRising}

-- each of these names is above this one
abbrev AreAbove : ℕ → List Named → Type 0
AreAbove n xs = AllByRecursion (λ (later : Named). n < later.name) xs

-- ---- one step

without_here : (c : ℕ) (x : Named) (xs : List Named) → nat_eq x.name c ≡ true → without_name c (x ∷ xs) ≡ without_name c xs
without_here c x xs e = rw e refl

without_other : (c : ℕ) (x : Named) (xs : List Named) → nat_eq x.name c ≡ false → without_name c (x ∷ xs) ≡ x ∷ without_name c xs
without_other c x xs e = rw e refl

with_before : (x y : Named) (ys : List Named) → nat_lt x.name y.name ≡ true → with_new x (y ∷ ys) ≡ x ∷ y ∷ ys
with_before x y ys e = rw e refl

with_after : (x y : Named) (ys : List Named) → nat_lt x.name y.name ≡ false → with_new x (y ∷ ys) ≡ y ∷ with_new x ys
with_after x y ys e = rw e refl

-- ---- without a name

all_if : (P : Named → Type 0) (b : Bool) (x : Named) (xs : List Named) → P x → AllByRecursion P xs → AllByRecursion P (cond b (x ∷ xs) xs)
all_if P true x xs p h = (p, h)
all_if P false x xs p h = h

above_without : (n c : ℕ) (xs : List Named) → AreAbove n xs → AreAbove n (without_name c xs)
above_without n c [] a = tt
above_without n c (x ∷ xs) a = all_if (λ (later : Named). n < later.name) (not (nat_eq x.name c)) x (without_name c xs) a.0 (above_without n c xs a.1)

rising_if : (b : Bool) (x : Named) (xs : List Named) → AreAbove x.name xs → AreRising xs → AreRising (cond b (x ∷ xs) xs)
rising_if true x xs a r = (a, r)
rising_if false x xs a r = r

pub rising_without : (c : ℕ) (xs : List Named) → AreRising xs → AreRising (without_name c xs)
rising_without c [] r = tt
rising_without c (x ∷ xs) r = rising_if (not (nat_eq x.name c)) x (without_name c xs) (above_without x.name c xs r.0) (rising_without c xs r.1)

-- ---- with a name more

above_more : (n m : ℕ) (xs : List Named) → n < m → AreAbove m xs → AreAbove n xs
above_more n m [] l a = tt
above_more n m (x ∷ xs) l a = let h = a.0 in (omega (arith, l, h), above_more n m xs l a.1)

less_by : (n m : ℕ) → nat_lt n m ≡ true → n < m
less_by n m e = grind (arith, nat_tests)

more_by : (n m : ℕ) → nat_lt n m ≡ false → nat_eq m n ≡ false → m < n
more_by n m e h = grind (arith, nat_tests)

above_with : (n : ℕ) (x : Named) (xs : List Named) → n < x.name → AreAbove n xs → AreAbove n (with_new x xs)
above_with n x [] l a = (l, tt)
above_with n x (y ∷ ys) l a = decide (nat_lt x.name y.name) refl (above_with n x ys l a.1)
  where
    decide : (b : Bool) → nat_lt x.name y.name ≡ b → AreAbove n (with_new x ys) → AreAbove n (with_new x (y ∷ ys))
    decide true e ih = subst (AreAbove n) (sym (with_before x y ys e)) (l, a)
    decide false e ih = subst (AreAbove n) (sym (with_after x y ys e)) (a.0, ih)

-- none has this name
abbrev IsAbsent : ℕ → List Named → Type 0
IsAbsent c xs = AllByRecursion (λ (y : Named). nat_eq y.name c ≡ false) xs

absent_without : (c : ℕ) (xs : List Named) → IsAbsent c (without_name c xs)
absent_without c [] = tt
absent_without c (x ∷ xs) = decide (nat_eq x.name c) refl (absent_without c xs)
  where
    decide : (b : Bool) → nat_eq x.name c ≡ b → IsAbsent c (without_name c xs) → IsAbsent c (without_name c (x ∷ xs))
    decide true e ih = subst (IsAbsent c) (sym (without_here c x xs e)) ih
    decide false e ih = subst (IsAbsent c) (sym (without_other c x xs e)) (e, ih)

rising_with : (x : Named) (xs : List Named) → IsAbsent x.name xs → AreRising xs → AreRising (with_new x xs)
rising_with x [] o r = (tt, tt)
rising_with x (y ∷ ys) o r = decide (nat_lt x.name y.name) refl (rising_with x ys o.1 r.1)
  where
    decide : (b : Bool) → nat_lt x.name y.name ≡ b → AreRising (with_new x ys) → AreRising (with_new x (y ∷ ys))
    decide true e ih = let l = less_by x.name y.name e in subst AreRising (sym (with_before x y ys e)) ((l, above_more x.name y.name ys l r.0), r)
    decide false e ih = subst AreRising (sym (with_after x y ys e)) (above_with y.name x ys (more_by x.name y.name e o.0) r.0, ih)

pub rising_named : (x : Named) (xs : List Named) → AreRising xs → AreRising (with_new x (without_name x.name xs))
rising_named x xs r = rising_with x (without_name x.name xs) (absent_without x.name xs) (rising_without x.name xs r)

-- ---- two names

front : (x : Named) (zs : List Named) → AreAbove x.name zs → with_new x zs ≡ x ∷ zs
front x [] a = refl
front x (z ∷ zs) a = with_before x z zs (by_less x.name z.name a.0)
  where
    by_less : (n m : ℕ) → n < m → nat_lt n m ≡ true
    by_less n m e = grind (arith, nat_tests)

-- one goes and another goes
pub without_twice : (c d : ℕ) (xs : List Named) → without_name c (without_name d xs) ≡ without_name d (without_name c xs)
without_twice c d [] = refl
without_twice c d (x ∷ xs) = decide (nat_eq x.name c) (nat_eq x.name d) refl refl (without_twice c d xs)
  where
    decide : (b e : Bool) → nat_eq x.name c ≡ b → nat_eq x.name d ≡ e → without_name c (without_name d xs) ≡ without_name d (without_name c xs) → without_name c (without_name d (x ∷ xs)) ≡ without_name d (without_name c (x ∷ xs))
    decide true true p q ih = ap (without_name c) (without_here d x xs q) ∙ ih ∙ ap (without_name d) (sym (without_here c x xs p))
    decide true false p q ih = ap (without_name c) (without_other d x xs q) ∙ without_here c x (without_name d xs) p ∙ ih ∙ ap (without_name d) (sym (without_here c x xs p))
    decide false true p q ih = ap (without_name c) (without_here d x xs q) ∙ ih ∙ sym (without_here d x (without_name c xs) q) ∙ ap (without_name d) (sym (without_other c x xs p))
    decide false false p q ih =
        ap (without_name c) (without_other d x xs q) ∙ without_other c x (without_name d xs) p ∙ ap (λ (l : List Named). x ∷ l) ih
        ∙ sym (without_other d x (without_name c xs) q) ∙ ap (without_name d) (sym (without_other c x xs p))

-- one goes and another comes
pub without_with : (c : ℕ) (x : Named) (ys : List Named) → nat_eq x.name c ≡ false → AreRising ys → without_name c (with_new x ys) ≡ with_new x (without_name c ys)
without_with c x [] n r = without_other c x [] n
without_with c x (y ∷ ys) n r = decide (nat_lt x.name y.name) (nat_eq y.name c) refl refl (without_with c x ys n r.1)
  where
    decide : (b e : Bool) → nat_lt x.name y.name ≡ b → nat_eq y.name c ≡ e → without_name c (with_new x ys) ≡ with_new x (without_name c ys) → without_name c (with_new x (y ∷ ys)) ≡ with_new x (without_name c (y ∷ ys))
    decide true e l q ih =
        ap (without_name c) (with_before x y ys l) ∙ without_other c x (y ∷ ys) n
        ∙ sym (front x (without_name c (y ∷ ys)) (above_without x.name c (y ∷ ys) (let low = less_by x.name y.name l in (low, above_more x.name y.name ys low r.0))))
    decide false true l q ih = ap (without_name c) (with_after x y ys l) ∙ without_here c y (with_new x ys) q ∙ ih ∙ ap (with_new x) (sym (without_here c y ys q))
    decide false false l q ih =
        ap (without_name c) (with_after x y ys l) ∙ without_other c y (with_new x ys) q ∙ ap (λ (l : List Named). y ∷ l) ih
        ∙ sym (with_after x y (without_name c ys) l) ∙ ap (with_new x) (sym (without_other c y ys q))

not_less : (n m : ℕ) → nat_lt n m ≡ true → nat_lt m n ≡ false
not_less n m e = grind (arith, nat_tests)

less_not : (n m : ℕ) → nat_lt n m ≡ false → nat_eq n m ≡ false → nat_lt m n ≡ true
less_not n m e h = grind (arith, nat_tests)

less_through : (a b c : ℕ) → nat_lt a b ≡ true → nat_lt b c ≡ true → nat_lt a c ≡ true
less_through a b c e h = grind (arith, nat_tests)

-- both before a third
both_before : (b : Bool) (x y z : Named) (zs : List Named) → nat_lt x.name y.name ≡ b → nat_eq x.name y.name ≡ false → nat_lt x.name z.name ≡ true → nat_lt y.name z.name ≡ true
    → with_new x (with_new y (z ∷ zs)) ≡ with_new y (with_new x (z ∷ zs))
both_before true x y z zs l n p q =
    ap (with_new x) (with_before y z zs q) ∙ with_before x y (z ∷ zs) l
    ∙ sym (ap (with_new y) (with_before x z zs p) ∙ with_after y x (z ∷ zs) (not_less x.name y.name l) ∙ ap (λ (l : List Named). x ∷ l) (with_before y z zs q))
both_before false x y z zs l n p q =
    let m = less_not x.name y.name l n in
    ap (with_new x) (with_before y z zs q) ∙ with_after x y (z ∷ zs) l ∙ ap (λ (l : List Named). y ∷ l) (with_before x z zs p)
    ∙ sym (ap (with_new y) (with_before x z zs p) ∙ with_before y x (z ∷ zs) m)

swap_empty : (b : Bool) (x y : Named) → nat_lt x.name y.name ≡ b → nat_eq x.name y.name ≡ false → with_new x (y ∷ []) ≡ with_new y (x ∷ [])
swap_empty true x y l n = with_before x y [] l ∙ sym (with_after y x [] (not_less x.name y.name l))
swap_empty false x y l n = with_after x y [] l ∙ sym (with_before y x [] (less_not x.name y.name l n))

-- two come
pub with_twice : (x y : Named) (zs : List Named) → nat_eq x.name y.name ≡ false → with_new x (with_new y zs) ≡ with_new y (with_new x zs)
with_twice x y [] n = swap_empty (nat_lt x.name y.name) x y refl n
with_twice x y (z ∷ zs) n = decide (nat_lt x.name z.name) (nat_lt y.name z.name) refl refl (with_twice x y zs n)
  where
    apart : nat_lt x.name z.name ≡ true → nat_lt y.name z.name ≡ false → nat_lt x.name y.name ≡ true
    apart p q = between x.name y.name z.name p q
      where
        between : (a b c : ℕ) → nat_lt a c ≡ true → nat_lt b c ≡ false → nat_lt a b ≡ true
        between a b c e h = grind (arith, nat_tests)

    apart_too : nat_lt x.name z.name ≡ false → nat_lt y.name z.name ≡ true → nat_lt x.name y.name ≡ false
    apart_too p q = between x.name y.name z.name p q
      where
        between : (a b c : ℕ) → nat_lt a c ≡ false → nat_lt b c ≡ true → nat_lt a b ≡ false
        between a b c e h = grind (arith, nat_tests)

    decide : (b e : Bool) → nat_lt x.name z.name ≡ b → nat_lt y.name z.name ≡ e → with_new x (with_new y zs) ≡ with_new y (with_new x zs) → with_new x (with_new y (z ∷ zs)) ≡ with_new y (with_new x (z ∷ zs))
    decide true true p q ih = both_before (nat_lt x.name y.name) x y z zs refl n p q
    decide true false p q ih =
        ap (with_new x) (with_after y z zs q) ∙ with_before x z (with_new y zs) p
        ∙ sym (ap (with_new y) (with_before x z zs p) ∙ with_after y x (z ∷ zs) (not_less x.name y.name (apart p q)) ∙ ap (λ (l : List Named). x ∷ l) (with_after y z zs q))
    decide false true p q ih =
        ap (with_new x) (with_before y z zs q) ∙ with_after x y (z ∷ zs) (apart_too p q) ∙ ap (λ (l : List Named). y ∷ l) (with_after x z zs p)
        ∙ sym (ap (with_new y) (with_after x z zs p) ∙ with_before y z (with_new x zs) q)
    decide false false p q ih =
        ap (with_new x) (with_after y z zs q) ∙ with_after x z (with_new y zs) p ∙ ap (λ (l : List Named). z ∷ l) ih
        ∙ sym (ap (with_new y) (with_after x z zs p) ∙ with_after y z (with_new x zs) q)

-- ---- absence

above_absent : (n : ℕ) (xs : List Named) → AreAbove n xs → held_at n xs ≡ None
above_absent n [] a = refl
above_absent n (x ∷ xs) a = let h : nat_eq x.name n ≡ false = higher n x.name a.0 in rw h (above_absent n xs a.1)
  where
    higher : (n m : ℕ) → n < m → nat_eq m n ≡ false
    higher n m l = grind (arith, nat_tests)

-- what is lower than all isn't there
pub rising_absent : (x : Named) (xs : List Named) → AreRising (x ∷ xs) → held_at x.name xs ≡ None
rising_absent x xs r = above_absent x.name xs r.0
