-- Small lemmas on numbers, options and lists.
use Rattle.std.proofs.Common.{◌≡◌, ◌≢◌, ℕ, List, [], ◌∷◌, ◌++◌, Option, None, Some, Bool, true, false, cond, not, map, arith, refl, sym, ap}
use Rattle.std.specs.Prelude.{◌==◌, ◌||◌, ◌&&◌, filter, IsSome}
use Rattle.std.specs.List.{AllByRecursion}
use Rattle.std.proofs.lemmas.Bool.{false≢true}
use Rattle.std.proofs.lemmas.Bool.Decides.{nat_tests}
use Rattle.kj_model.specs.Nodes.{is_in}

pub some_same : {A : Type 0} (a b : A) → ◌≡◌ {A = Option A} (Some a) (Some b) → a ≡ b
some_same a b e = cc

pub none_some : {A : Type 0} (a : A) → ◌≡◌ {A = Option A} None (Some a) → ⊥
none_some a e = cc

pub is_some_of : (o : Option ℕ) (n : ℕ) → o ≡ Some n → IsSome o
is_some_of o n e = rw e refl

pub not_some : (o : Option ℕ) → o ≡ None → IsSome o → ⊥
not_some None e h = false≢true h
not_some (Some n) e h = none_some n (sym e)

pub equal_not : (a b : ℕ) → a ≢ b → (a == b) ≡ false
equal_not a b h = grind (arith, nat_tests)

pub equal_yes : (a b : ℕ) → a ≡ b → (a == b) ≡ true
equal_yes a b h = grind (arith, nat_tests)

pub not_equal : (a b : ℕ) → not (a == b) ≡ true → a ≢ b
not_equal a b h same = absurd (grind (arith, nat_tests))

pub differs : (a b : ℕ) → a ≢ b → not (a == b) ≡ true
differs a b h = ap not (equal_not a b h)

pub both : (a b : Bool) → a ≡ true → b ≡ true → (a && b) ≡ true
both a b h k = rw (h, k) refl

pub first_of_both : (a b : Bool) → (a && b) ≡ true → a ≡ true
first_of_both true b h = refl
first_of_both false b h = h

pub second_of_both : (a b : Bool) → (a && b) ≡ true → b ≡ true
second_of_both true b h = h
second_of_both false b h = absurd (false≢true h)

-- ---- all of a list

filter_case : {X : Type 0} (P R : X → Type 0) (p : X → Bool) → ((x : X) → p x ≡ true → P x → R x) → (b : Bool) (x : X) (xs : List X) → p x ≡ b → P x → AllByRecursion R xs → AllByRecursion R (cond b (x ∷ xs) xs)
filter_case P R p f true x xs e h k = (f x e h, k)
filter_case P R p f false x xs e h k = k

pub all_filter : {X : Type 0} (P R : X → Type 0) (p : X → Bool) → ((x : X) → p x ≡ true → P x → R x) → (xs : List X) → AllByRecursion P xs → AllByRecursion R (filter p xs)
all_filter P R p f [] h = tt
all_filter P R p f (x ∷ xs) h = filter_case P R p f (p x) x (filter p xs) refl h.0 (all_filter P R p f xs h.1)

pub all_append : {X : Type 0} (P : X → Type 0) (xs ys : List X) → AllByRecursion P xs → AllByRecursion P ys → AllByRecursion P (xs ++ ys)
all_append P [] ys h k = k
all_append P (x ∷ xs) ys h k = (h.0, all_append P xs ys h.1 k)

pub map_append : {X Y : Type 0} (f : X → Y) (xs ys : List X) → map f (xs ++ ys) ≡ map f xs ++ map f ys
map_append f [] ys = refl
map_append f (x ∷ xs) ys = λ i. f x ∷ map_append f xs ys i

-- ---- members

in_case : (P : ℕ → Type 0) (n m : ℕ) (b : Bool) → (m == n) ≡ b → (rest : Bool) → (b || rest) ≡ true → P m → (rest ≡ true → P n) → P n
in_case P n m true e rest h p k = subst_same P m n (grind (arith, nat_tests)) p
  where
    subst_same : (P : ℕ → Type 0) (m n : ℕ) → m ≡ n → P m → P n
    subst_same P m n e p = rw (← e) p
in_case P n m false e rest h p k = k h

-- what holds of all holds of each
pub of_all : (P : ℕ → Type 0) (n : ℕ) (xs : List ℕ) → AllByRecursion P xs → is_in n xs ≡ true → P n
of_all P n [] h k = absurd (false≢true k)
of_all P n (x ∷ xs) h k = in_case P n x (x == n) refl (is_in n xs) k h.0 (λ r. of_all P n xs h.1 r)
