-- What the operations of the queue keep.
use Rattle.std.proofs.Common.{zero, suc, ◌≡◌, ℕ, ◌+◌, ◌<◌, ◌≤◌, List, [], ◌∷◌, length, Bool, true, false, arith, refl, None, Some, cond}
use Rattle.std.specs.Prelude.{nat_eq, nat_lt, ◌==◌, insert, remove, if◌then◌else◌}
use Rattle.std.specs.List.{list_any, AllByRecursion, IsDistinct, position_or_len}
use Rattle.std.proofs.lemmas.Bool.{or_parts}
use Rattle.std.proofs.lemmas.Bool.Decides.{nat_tests}
use Rattle.std.proofs.lemmas.List.Edits.{length-insert, length-remove}
use Rattle.kj_base.specs.Queue.{Events, Way, DepthFirst, BreadthFirst, AtLast, IsQueue, is_armed, armed, falls, without_place, without_found, disarmed, taken, rewound, no_events}

swapped : (a b : ℕ) → nat_eq a b ≡ false → nat_eq b a ≡ false
swapped a b h = grind (arith, nat_tests)

pub others : (xs : List ℕ) (e : ℕ) → list_any (λ x. x == e) xs ≡ false → AllByRecursion (λ y. nat_eq e y ≡ false) xs
others [] e h = tt
others (x ∷ xs) e h = let p = or_parts (nat_eq x e) (list_any (λ x. x == e) xs) h in (swapped x e p.0, others xs e p.1)

pub all_insert : (P : ℕ → Type 0) (xs : List ℕ) (i e : ℕ) → P e → AllByRecursion P xs → AllByRecursion P (insert xs i e)
all_insert P [] zero e p h = (p, tt)
all_insert P [] (suc i) e p h = (p, tt)
all_insert P (x ∷ xs) zero e p h = (p, h)
all_insert P (x ∷ xs) (suc i) e p h = (h.0, all_insert P xs i e p h.1)

pub all_remove : (P : ℕ → Type 0) (xs : List ℕ) (i : ℕ) → AllByRecursion P xs → AllByRecursion P (remove xs i)
all_remove P [] zero h = tt
all_remove P [] (suc i) h = tt
all_remove P (x ∷ xs) zero h = h.1
all_remove P (x ∷ xs) (suc i) h = (h.0, all_remove P xs i h.1)

pub apart_insert : (xs : List ℕ) (i e : ℕ) → list_any (λ x. x == e) xs ≡ false → IsDistinct nat_eq xs → IsDistinct nat_eq (insert xs i e)
unfolding IsDistinct
apart_insert [] zero e n h = (tt, tt)
apart_insert [] (suc i) e n h = (tt, tt)
apart_insert (x ∷ xs) zero e n h = (others (x ∷ xs) e n, h)
apart_insert (x ∷ xs) (suc i) e n h =
    let p = or_parts (nat_eq x e) (list_any (λ x. x == e) xs) n in
    (all_insert _ xs i e p.0 h.0, apart_insert xs i e p.1 h.1)

apart_remove : (xs : List ℕ) (i : ℕ) → IsDistinct nat_eq xs → IsDistinct nat_eq (remove xs i)
unfolding IsDistinct
apart_remove [] zero h = tt
apart_remove [] (suc i) h = tt
apart_remove (x ∷ xs) zero h = h.1
apart_remove (x ∷ xs) (suc i) h = (all_remove _ xs i h.0, apart_remove xs i h.1)

pub inserted : (e i d b : ℕ) (q : Events) → IsQueue q → list_any (λ x. x == e) q.list ≡ false → i ≤ length q.list → d ≤ b → b ≤ length q.list + 1 → IsQueue (record { list = insert q.list i e; depth = d; breadth = b })
inserted e i d b q k a il db bl = record {
  depth = db;
  breadth = omega (arith, length-insert q.list i e il);
  apart = apart_insert q.list i e a k.apart;
}

lower : (p d b : ℕ) → d ≤ b → falls p d ≤ falls p b
lower p d b h = grind (arith, nat_tests)

lower_within : (p b n : ℕ) → b ≤ n → p < n → falls p b + 1 ≤ n
lower_within p b n h l = grind (arith, nat_tests)

pub removed : (i : ℕ) (q : Events) → IsQueue q → i < length q.list → IsQueue (without_place i q)
removed i q k il = record {
  depth = lower i q.depth q.breadth k.depth;
  breadth = omega (arith, length-remove q.list i il, lower_within i q.breadth (length q.list) k.breadth il);
  apart = apart_remove q.list i k.apart;
}

chosen : (b : Bool) (q r : Events) → (b ≡ true → IsQueue q) → (b ≡ false → IsQueue r) → IsQueue (if b then q else r)
chosen true q r h k = h refl
chosen false q r h k = k refl

pub armed_keeps : (way : Way) (e : ℕ) (q : Events) → IsQueue q → IsQueue (armed way e q)
armed_keeps DepthFirst e q k = chosen (is_armed e q) q _ (λ a. k) (λ a. let d = k.depth in let b = k.breadth in inserted e q.depth (q.depth + 1) (q.breadth + 1) q k a (omega arith) (omega arith) (omega arith))
armed_keeps BreadthFirst e q k = chosen (is_armed e q) q _ (λ a. k) (λ a. let d = k.depth in let b = k.breadth in inserted e q.breadth q.depth (q.breadth + 1) q k a (omega arith) (omega arith) (omega arith))
armed_keeps AtLast e q k = chosen (is_armed e q) q _ (λ a. k) (λ a. let d = k.depth in let b = k.breadth in inserted e q.breadth q.depth q.breadth q k a (omega arith) (omega arith) (omega arith))

found_within : (b : Bool) (i : ℕ) (q : Events) → nat_lt i (length q.list) ≡ b → IsQueue q → IsQueue (without_found (cond b (Some i) None) q)
found_within true i q h k = removed i q k (grind (arith, nat_tests))
found_within false i q h k = k

pub disarmed_keeps : (e : ℕ) (q : Events) → IsQueue q → IsQueue (disarmed e q)
disarmed_keeps e q k = found_within _ (position_or_len (λ x. x == e) q.list) q refl k

pub taken_keeps : (q : Events) → IsQueue q → IsQueue (taken q)
taken_keeps q k = chosen (nat_lt 0 (length q.list)) (without_place 0 q) q (λ h. removed 0 q k (grind (arith, nat_tests))) (λ h. k)

pub rewound_keeps : (q : Events) → IsQueue q → IsQueue (rewound q)
rewound_keeps q k = record { depth = omega arith; breadth = k.breadth; apart = k.apart }

pub empty_is : IsQueue no_events
unfolding IsDistinct
empty_is = record { depth = omega arith; breadth = omega arith; apart = tt }
