-- The least request that passes, and what a change of each element leaves.
use Rattle.std.proofs.Common.{◌≡◌, ℕ, zero, suc, ◌+◌, ◌<◌, Bool, true, cond, List, [], ◌∷◌, ◌++◌, map, take, drop, set, get_or, length, refl, ap, ◌∙◌, subst, sym, arith, Some, None}
use Rattle.std.specs.Prelude.{slice_get}
use Rattle.std.specs.List.{position_from}
use Rattle.executor_core.specs.declared.request.Request.{Request}
use Rattle.executor_core.specs.Acts.{NoneBelow, least}

tail_below : (p : Request → Bool) (q : Request) (rs : List Request) (n : ℕ) → NoneBelow p (q ∷ rs) (suc n) → NoneBelow p rs n
tail_below p q rs n h k x lt e = h (suc k) x (omega arith) e

found : (p : Request → Bool) (i : ℕ) (rs : List Request) (k : ℕ) (q : Request) → slice_get rs k ≡ Some q → p q ≡ true → NoneBelow p rs k → position_from p i rs ≡ Some (i + k)
found p i [] k q e passes none = absurd cc
found p i (x ∷ rs) zero q e passes none = let same : x ≡ q = cc in subst (λ (b : Bool). cond b (Some i) (position_from p (i + 1) rs) ≡ Some (i + 0)) (sym (ap p same ∙ passes)) (ap Some (let g : i ≡ i + 0 = omega arith in g))
found p i (x ∷ rs) (suc k) q e passes none = let rec = found p (i + 1) rs k q e passes (tail_below p x rs k none) in
    subst (λ (b : Bool). cond b (Some i) (position_from p (i + 1) rs) ≡ Some (i + suc k)) (sym (none 0 x (omega arith) refl)) (rec ∙ ap Some (let g : i + 1 + k ≡ i + suc k = omega arith in g))

pub least_some : (p : Request → Bool) (rs : List Request) (k : ℕ) (q : Request) → slice_get rs k ≡ Some q → p q ≡ true → NoneBelow p rs k → least p rs ≡ Some k
least_some p rs k q e passes none = found p 0 rs k q e passes none ∙ ap Some (let g : 0 + k ≡ k = omega arith in g)

nowhere : (p : Request → Bool) (i : ℕ) (rs : List Request) → NoneBelow p rs (length rs) → position_from p i rs ≡ None
nowhere p i [] none = refl
nowhere p i (x ∷ rs) none = subst (λ (b : Bool). cond b (Some i) (position_from p (i + 1) rs) ≡ None) (sym (none 0 x (omega arith) refl)) (nowhere p (i + 1) rs (tail_below p x rs (length rs) none))

pub least_none : (p : Request → Bool) (rs : List Request) → NoneBelow p rs (length rs) → least p rs ≡ None
least_none p rs none = nowhere p 0 rs none

mapped : {A : Type 0} (f : A → A) (xs : List A) (i : ℕ) (d : A) → i < length xs → set (map f (take i xs) ++ drop i xs) i (f (get_or (map f (take i xs) ++ drop i xs) i d)) ≡ map f (take (suc i) xs) ++ drop (suc i) xs
mapped f [] i d h = absurd (omega arith)
mapped f (x ∷ xs) zero d h = refl
mapped f (x ∷ xs) (suc i) d h = ap (λ l. f x ∷ l) (mapped f xs i d (omega arith))

-- a loop that changes each element, one step further
pub map_step : {A : Type 0} (f : A → A) (xs cur : List A) (i : ℕ) (d y : A) → i < length xs → cur ≡ map f (take i xs) ++ drop i xs → y ≡ f (get_or cur i d) → set cur i y ≡ map f (take (i + 1) xs) ++ drop (i + 1) xs
map_step f xs cur i d y h e q = ap (set cur i) (q ∙ ap (λ l. f (get_or l i d)) e) ∙ ap (λ l. set l i (f (get_or (map f (take i xs) ++ drop i xs) i d))) e ∙ mapped f xs i d h
    ∙ ap (λ k. map f (take k xs) ++ drop k xs) (let g : suc i ≡ i + 1 = omega arith in g)
