-- What requests weigh, and what stands in the heap of those that were asked to end.
use Rattle.std.proofs.Common.{◌≡◌, ◌≢◌, ℕ, zero, suc, ◌+◌, ◌<◌, ◌≤◌, Bool, true, false, cond, List, [], ◌∷◌, ◌++◌, map, length, set, get_or, refl, ap, ◌∙◌, subst, sym, arith, le_refl, ⊎_elim, Option, Some, None, Result, Ok, Err, IsSome, IfSome, IsOk, OnOk}
use Rattle.std.specs.Prelude.{slice_get}
use Rattle.std.specs.List.{All, Contains}
use Rattle.std.specs.List.Sorted.{IsPermutation}
use Rattle.std.specs.Ordering.{nat_cmp}
use Rattle.std.specs.BinaryHeap.{IsHeap, IsUpperBound, PopsGreatest, heap_len, heap_capacity}
use Rattle.std.proofs.lemmas.List.Elements.{All-nil, All-cons, All-tail, All-contains, Contains-append_cases}
use Rattle.std.proofs.lemmas.List.Sorted.{All-permutation, Contains-permutation, IsPermutation-map, IsPermutation-sym}
use Rattle.std.proofs.lemmas.Map.Keys.{ge_from_not_lt}
use Rattle.executor_core.specs.declared.asked.Asked.{Asked}
use Rattle.executor_core.specs.declared.request.Request.{Request}
use Rattle.executor_core.specs.declared.request.State.{State}
use Rattle.executor_core.specs.Acts.{NoneBelow, is_canceling, canceling_state, shut}
use Rattle.executor_core.specs.Chains.{bit, marks}
use Rattle.executor_core.specs.Asks.{Asks, Ordered, IsLeastOf, numbers, total}

module _ (w : State → ℕ) where
  pub total_set : (rs : List Request) (r : ℕ) (q x : Request) → slice_get rs r ≡ Some q → total w (set rs r x) + w q.state ≡ total w rs + w x.state
  total_set [] r q x e = absurd cc
  total_set (y ∷ ys) zero q x e = let same : w y.state ≡ w q.state = (let g : y ≡ q = cc in ap (λ (z : Request). w z.state) g) in
      let a : ℕ = w x.state in let b : ℕ = total w ys in let c : ℕ = w q.state in let c' : ℕ = w y.state in let same' : c' ≡ c = same in let g : a + b + c ≡ c' + b + a = omega arith in g
  total_set (y ∷ ys) (suc r) q x e = let h = total_set ys r q x e in
      let a : ℕ = w y.state in let b : ℕ = total w (set ys r x) in let c : ℕ = w q.state in let d : ℕ = total w ys in let f : ℕ = w x.state in let h' : b + c ≡ d + f = h in let g : a + b + c ≡ a + d + f = omega arith in g

  pub total_snoc : (rs : List Request) (x : Request) → total w (rs ++ x ∷ []) ≡ total w rs + w x.state
  total_snoc [] x = let a : ℕ = w x.state in let g : a + 0 ≡ 0 + a = omega arith in g
  total_snoc (y ∷ ys) x = let h = total_snoc ys x in
      let a : ℕ = w y.state in let b : ℕ = total w (ys ++ x ∷ []) in let c : ℕ = total w ys in let f : ℕ = w x.state in let h' : b ≡ c + f = h in let g : a + b ≡ a + c + f = omega arith in g

  pub total_closes : ((q : Request) → w (shut q).state ≤ w q.state) → (rs : List Request) → total w (map shut rs) ≤ total w rs
  total_closes less [] = le_refl 0
  total_closes less (q ∷ rs) = let h = total_closes less rs in let g = less q in let a : ℕ = w (shut q).state in let b : ℕ = w q.state in let c : ℕ = total w (map shut rs) in let d : ℕ = total w rs in
      let g' : a ≤ b = g in let h' : c ≤ d = h in let z : a + c ≤ b + d = omega arith in z

  pub total_least : (rs : List Request) (r : ℕ) (q : Request) → slice_get rs r ≡ Some q → w q.state ≤ total w rs
  total_least [] r q e = absurd cc
  total_least (y ∷ ys) zero q e = let same : w y.state ≡ w q.state = (let g : y ≡ q = cc in ap (λ (z : Request). w z.state) g) in
      let a : ℕ = w q.state in let b : ℕ = w y.state in let c : ℕ = total w ys in let same' : b ≡ a = same in let z : a ≤ b + c = omega arith in z
  total_least (y ∷ ys) (suc r) q e = let h = total_least ys r q e in let a : ℕ = w q.state in let b : ℕ = w y.state in let c : ℕ = total w ys in let h' : a ≤ c = h in let z : a ≤ b + c = omega arith in z

pub contains_first : (x : ℕ) (ns : List ℕ) → Contains (x ∷ ns) x
contains_first x ns = (0, (let n : ℕ = length ns in let z : 0 < suc n = omega arith in z), refl)

-- the top of a heap is its least
pub top_under : {X : Type 0} (n : X → ℕ) (x : X) (xs : List X) → IsUpperBound (λ a b. nat_cmp (n b) (n a)) x xs → All (λ k. n x ≤ k) (map n xs)
top_under n x [] h = All-nil (λ k. n x ≤ k)
top_under n x (y ∷ ys) h = All-cons (λ k. n x ≤ k) (n y) (map n ys) (ge_from_not_lt (n y) (n x) h.0) (top_under n x ys h.1)

pub top_in : {X : Type 0} (n : X → ℕ) (x : X) (xs : List X) → 0 < length xs → x ≡ get_or xs 0 x → Contains (map n xs) (n x)
top_in n x [] some e = absurd (let z : ⊥ = omega arith in z)
top_in n x (y ∷ ys) some e = (0, (let z : 0 < length (n y ∷ map n ys) = omega arith in z), ap n (sym e))

pub one_least : (r s : ℕ) (ns : List ℕ) → IsLeastOf r ns → IsLeastOf s ns → r ≡ s
one_least r s ns a b = let low = All-contains (λ k. r ≤ k) ns s a.1 b.0 in let high = All-contains (λ k. s ≤ k) ns r b.1 a.0 in let z : r ≡ s = omega arith in z

pub in_rest : (x : ℕ) (ns : List ℕ) (k : ℕ) → Contains (x ∷ ns) k → k ≢ x → Contains ns k
in_rest x ns k c ne = ⊎_elim (λ h. absurd (ne (All-contains (λ y. y ≡ x) (x ∷ []) k (All-cons (λ y. y ≡ x) x [] refl (All-nil (λ y. y ≡ x))) h))) (λ h. h) (Contains-append_cases (x ∷ []) ns k c)

-- a `pop` takes the least
pub pop_takes : {X : Type 0} (n : X → ℕ) (xs ys : List X) (o : Option X) → IsSome o → IfSome o (λ x. IsPermutation xs (x ∷ ys)) → IfSome o (λ x. PopsGreatest (λ a b. nat_cmp (n b) (n a)) xs x ys) → IsHeap (λ a b. nat_cmp (n b) (n a)) xs
    → (r : ℕ) → IsLeastOf r (map n xs) → IsPermutation (map n xs) (r ∷ map n ys)
pop_takes n xs ys None some p pops heap r low = absurd cc
pop_takes n xs ys (Some x) some p pops heap r low = let all : IsPermutation (map n xs) (n x ∷ map n ys) = IsPermutation-map n xs (x ∷ ys) p in
    let there : Contains (map n xs) (n x) = Contains-permutation (n x ∷ map n ys) (map n xs) (n x) (IsPermutation-sym (map n xs) (n x ∷ map n ys) all) (contains_first (n x) (map n ys)) in
    subst (λ (k : ℕ). IsPermutation (map n xs) (k ∷ map n ys)) (one_least (n x) r (map n xs) (there, top_under n x xs (pops heap).1) low) all

pub on_ok : {T E : Type 0} (o : Result T E) (P : Type 0) → OnOk o P → IsOk o → P
on_ok (Ok x) P h is = h
on_ok (Err e) P h is = absurd cc

module _ (limit : ℕ) (rs : List Request) (asked : Asked) (a : Asks limit rs asked) where
  to_tell : (k : ℕ) (q : Request) → slice_get rs k ≡ Some q → is_canceling q ≡ true → Contains (numbers asked) k
  to_tell k q at is = a.told k (ap (bit canceling_state) at ∙ ap (λ (b : Bool). cond b 1 0) is)

  -- nothing below the least that stands there is to be told
  pub none_under : (r n : ℕ) → All (λ k. r ≤ k) (numbers asked) → n ≤ r → NoneBelow is_canceling rs n
  none_under r n all low k q under at = elim (is_canceling q) as (λ b. is_canceling q ≡ b → b ≡ false) [
    | true ↦ λ is. absurd (let most = All-contains (λ k. r ≤ k) (numbers asked) k all (to_tell k q at is) in let z : ⊥ = omega arith in z)
    | false ↦ λ is. refl
  ] refl

  pub none_at_all : (n : ℕ) → numbers asked ≡ [] → NoneBelow is_canceling rs n
  none_at_all n e = none_under n n (subst (λ (l : List ℕ). All (λ k. n ≤ k) l) (sym e) (All-nil (λ k. n ≤ k))) (le_refl n)

  -- one that is not to be told goes
  pub forgets : (r : ℕ) (asked' : Asked) → marks canceling_state rs r ≡ 0 → IsPermutation (numbers asked) (r ∷ numbers asked') → Ordered asked' → heap_len asked'.heap + 1 ≡ heap_len asked.heap → heap_capacity asked'.heap ≡ heap_capacity asked.heap → Asks limit rs asked'
  forgets r asked' quiet p order less same = let fits = a.fits in let room = a.room in record {
    ordered = order;
    within = All-tail (λ k. k < length rs) r (numbers asked') (All-permutation (λ k. k < length rs) (numbers asked) (r ∷ numbers asked') p a.within);
    told = λ k one. in_rest r (numbers asked') k (Contains-permutation (numbers asked) (r ∷ numbers asked') k p (a.told k one)) (λ e. let zero : marks canceling_state rs k ≡ 0 = ap (marks canceling_state rs) e ∙ quiet in absurd (let z : ⊥ = omega arith in z));
    fits = omega arith;
    room = omega arith;
  }
