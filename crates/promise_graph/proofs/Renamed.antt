-- Events under other numbers.
use Rattle.std.proofs.Common.{◌≡◌, ◌≢◌, ℕ, zero, suc, ◌+◌, List, [], ◌∷◌, None, Some, Bool, true, false, cond, not, length, map, arith, refl, sym, ap, ◌∙◌, inl, inr, subst}
use Rattle.std.specs.Prelude.{◌==◌, nat_eq, nat_lt, insert, remove, ◌||◌}
use Rattle.std.specs.List.{AllByRecursion, IsDistinct, list_any, position_or_len}
use Rattle.std.proofs.lemmas.Bool.{cases_eq}
use Rattle.std.proofs.lemmas.Bool.Decides.{nat_tests}
use Rattle.std.proofs.lemmas.List.{length-map}
use Rattle.kj_base.specs.Queue.{Events, disarmed, without_found, falls}
use Rattle.promise_graph.specs.Standing.{events_as}

same_test : (a b : ℕ) → a ≡ b → (a == b) ≡ true
same_test a b e = grind (arith, nat_tests)

other_test : (a b : ℕ) → a ≢ b → (a == b) ≡ false
other_test a b e = grind (arith, nat_tests)

-- different events have different numbers
abbrev pub IsApart : (ℕ → ℕ) → Type 0
IsApart f = (x y : ℕ) → f x ≡ f y → x ≡ y

test_by : (f : ℕ → ℕ) → IsApart f → (x e : ℕ) → (f x == f e) ≡ (x == e)
test_by f one x e = elim (cases_eq x e) [
  | inl p ↦ same_test (f x) (f e) (ap f p) ∙ sym (same_test x e p)
  | inr d ↦ other_test (f x) (f e) (λ g. d (one x e g)) ∙ sym (other_test x e d)
]

place_by : (f : ℕ → ℕ) → IsApart f → (e : ℕ) (xs : List ℕ) → position_or_len (λ x. x == f e) (map f xs) ≡ position_or_len (λ x. x == e) xs
place_by f one e [] = refl
place_by f one e (x ∷ xs) =
    ap (λ (b : Bool). cond (not b) (1 + position_or_len (λ y. y == f e) (map f xs)) 0) (test_by f one x e)
    ∙ ap (λ (i : ℕ). cond (not (x == e)) (1 + i) 0) (place_by f one e xs)

pub remove_by : (f : ℕ → ℕ) (xs : List ℕ) (i : ℕ) → map f (remove xs i) ≡ remove (map f xs) i
remove_by f [] zero = refl
remove_by f [] (suc i) = refl
remove_by f (x ∷ xs) zero = refl
remove_by f (x ∷ xs) (suc i) = ap (λ l. f x ∷ l) (remove_by f xs i)

found_by : (f : ℕ → ℕ) (q : Events) (i : ℕ) (b : Bool) → events_as f (without_found (cond b (Some i) None) q) ≡ without_found (cond b (Some i) None) (events_as f q)
found_by f q i true = ap (λ l. record { list = l; depth = falls i q.depth; breadth = falls i q.breadth }) (remove_by f q.list i)
found_by f q i false = refl

-- disarming goes by any numbers
pub disarmed_by : (f : ℕ → ℕ) → IsApart f → (e : ℕ) (q : Events) → events_as f (disarmed e q) ≡ disarmed (f e) (events_as f q)
disarmed_by f one e q =
    found_by f q (position_or_len (λ x. x == e) q.list) (nat_lt (position_or_len (λ x. x == e) q.list) (length q.list))
    ∙ ap (λ (i : ℕ). without_found (cond (nat_lt i (length q.list)) (Some i) None) (events_as f q)) (sym (place_by f one e q.list))
    ∙ ap (λ (j : ℕ). without_found (cond (nat_lt (position_or_len (λ x. x == f e) (map f q.list)) j) (Some (position_or_len (λ x. x == f e) (map f q.list))) None) (events_as f q)) (sym (length-map q.list f))

pub any_by : (f : ℕ → ℕ) → IsApart f → (e : ℕ) (xs : List ℕ) → list_any (λ y. y == f e) (map f xs) ≡ list_any (λ y. y == e) xs
any_by f one e [] = refl
any_by f one e (x ∷ xs) = ap (λ (b : Bool). b || list_any (λ y. y == f e) (map f xs)) (test_by f one x e) ∙ ap (λ (b : Bool). (x == e) || b) (any_by f one e xs)

pub insert_by : (f : ℕ → ℕ) (xs : List ℕ) (i e : ℕ) → map f (insert xs i e) ≡ insert (map f xs) i (f e)
insert_by f [] zero e = refl
insert_by f [] (suc i) e = refl
insert_by f (x ∷ xs) zero e = refl
insert_by f (x ∷ xs) (suc i) e = ap (λ l. f x ∷ l) (insert_by f xs i e)

-- ---- other numbers for events that aren't armed

pub map_same : (f h : ℕ → ℕ) (xs : List ℕ) → AllByRecursion (λ x. h x ≡ f x) xs → map h xs ≡ map f xs
map_same f h [] e = refl
map_same f h (x ∷ xs) e = λ i. e.0 i ∷ map_same f h xs e.1 i

pub events_same : (f h : ℕ → ℕ) (q : Events) → AllByRecursion (λ x. h x ≡ f x) q.list → events_as h q ≡ events_as f q
events_same f h q e = ap (λ l. record { list = l; depth = q.depth; breadth = q.breadth }) (map_same f h q.list e)

pub all_more : {X : Type 0} (P R : X → Type 0) → ((x : X) → P x → R x) → (xs : List X) → AllByRecursion P xs → AllByRecursion R xs
all_more P R f [] h = tt
all_more P R f (x ∷ xs) h = (f x h.0, all_more P R f xs h.1)

swapped : (a b : ℕ) → nat_eq a b ≡ false → nat_eq b a ≡ false
swapped a b h = grind (arith, nat_tests)

abbrev place : ℕ → List ℕ → ℕ
place n xs = position_or_len (λ x. x == n) xs

rest_all : (P R : ℕ → Type 0) (e : ℕ) → ((x : ℕ) → (x == e) ≡ false → P x → R x) → (xs : List ℕ) → AllByRecursion (λ y. nat_eq e y ≡ false) xs → AllByRecursion P xs → AllByRecursion R xs
rest_all P R e f [] d h = tt
rest_all P R e f (x ∷ xs) d h = (f x (swapped e x d.0) h.0, rest_all P R e f xs d.1 h.1)

found_is : (x n : ℕ) (xs : List ℕ) → (x == n) ≡ true → AllByRecursion (λ y. nat_eq x y ≡ false) xs → AllByRecursion (λ y. nat_eq n y ≡ false) xs
found_is x n xs e h = let same : x ≡ n = grind (arith, nat_tests) in subst (λ (m : ℕ). AllByRecursion (λ y. nat_eq m y ≡ false) xs) same h

removed_case : (P R : ℕ → Type 0) (e : ℕ) → ((x : ℕ) → (x == e) ≡ false → P x → R x) → (b : Bool) (x : ℕ) (xs : List ℕ) → (x == e) ≡ b → AllByRecursion (λ y. nat_eq x y ≡ false) xs → AllByRecursion P (x ∷ xs)
    → AllByRecursion R (remove xs (place e xs)) → AllByRecursion R (remove (x ∷ xs) (cond (not b) (1 + place e xs) 0))
removed_case P R e f true x xs t d h k = rest_all P R e f xs (found_is x e xs t d) h.1
removed_case P R e f false x xs t d h k =
    let one : 1 + place e xs ≡ suc (place e xs) = omega arith in
    subst (λ (i : ℕ). AllByRecursion R (remove (x ∷ xs) i)) (sym one) (f x t h.0, k)

removed_all : (P R : ℕ → Type 0) (e : ℕ) → ((x : ℕ) → (x == e) ≡ false → P x → R x) → (xs : List ℕ) → IsDistinct nat_eq xs → AllByRecursion P xs → AllByRecursion R (remove xs (place e xs))
unfolding IsDistinct
removed_all P R e f [] d h = tt
removed_all P R e f (x ∷ xs) d h = removed_case P R e f (x == e) x xs refl d.0 h (removed_all P R e f xs d.1 h.1)

not_first : (k m : ℕ) → nat_lt (1 + k) (suc m) ≡ false → nat_lt k m ≡ false
not_first k m h = grind (arith, nat_tests)

no_first : (m : ℕ) → nat_lt 0 (suc m) ≡ false → ⊥
no_first m h = grind (arith, nat_tests)

unfound_case : (P R : ℕ → Type 0) (e : ℕ) → ((x : ℕ) → (x == e) ≡ false → P x → R x) → (b : Bool) (x : ℕ) (xs : List ℕ) → (x == e) ≡ b → AllByRecursion P (x ∷ xs)
    → nat_lt (cond (not b) (1 + place e xs) 0) (length (x ∷ xs)) ≡ false → (nat_lt (place e xs) (length xs) ≡ false → AllByRecursion R xs) → AllByRecursion R (x ∷ xs)
unfound_case P R e f true x xs t h l k = absurd (no_first (length xs) l)
unfound_case P R e f false x xs t h l k = (f x t h.0, k (not_first (place e xs) (length xs) l))

unfound_all : (P R : ℕ → Type 0) (e : ℕ) → ((x : ℕ) → (x == e) ≡ false → P x → R x) → (xs : List ℕ) → AllByRecursion P xs → nat_lt (place e xs) (length xs) ≡ false → AllByRecursion R xs
unfound_all P R e f [] h l = tt
unfound_all P R e f (x ∷ xs) h l = unfound_case P R e f (x == e) x xs refl h l (unfound_all P R e f xs h.1)

left_case : (P R : ℕ → Type 0) (e : ℕ) → ((x : ℕ) → (x == e) ≡ false → P x → R x) → (b : Bool) (q : Events) → nat_lt (place e q.list) (length q.list) ≡ b → IsDistinct nat_eq q.list → AllByRecursion P q.list
    → AllByRecursion R (without_found (cond b (Some (place e q.list)) None) q).list
left_case P R e f true q t d h = removed_all P R e f q.list d h
left_case P R e f false q t d h = unfound_all P R e f q.list h t

-- what holds of each other event holds of all that are left
pub left_all : (P R : ℕ → Type 0) (e : ℕ) → ((x : ℕ) → (x == e) ≡ false → P x → R x) → (q : Events) → IsDistinct nat_eq q.list → AllByRecursion P q.list → AllByRecursion R (disarmed e q).list
left_all P R e f q d h = left_case P R e f _ q refl d h
