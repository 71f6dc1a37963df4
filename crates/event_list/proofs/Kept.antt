-- What an insertion and a removal keep.
use Rattle.std.proofs.Common.{◌≡◌, ℕ, ◌+◌, ◌<◌, ◌≤◌, List, [], ◌∷◌, length, Bool, true, false, arith, subst, sym, refl, inl, inr, ◌⊎◌}
use Rattle.std.specs.Prelude.{nat_eq, ◌==◌, ◌||◌, insert, remove, Vec, vec_capacity}
use Rattle.std.specs.List.{list_any, AllByRecursion, IsDistinct}
use Rattle.std.specs.declared.alloc.Global.{Global}
use Rattle.std.proofs.lemmas.Bool.{false≢true}
use Rattle.std.proofs.lemmas.Bool.Decides.{nat_tests}
use Rattle.std.proofs.lemmas.List.Edits.{length-insert}
use Rattle.std.proofs.lemmas.Map.Steps.{length-le_from_distinct_below}
use Rattle.kj_base.specs.Queue.{IsQueue, falls}
use Rattle.kj_base.proofs.QueueLemmas.{all_insert, all_remove, apart_insert, inserted, removed, empty_is}
use Rattle.event_list.specs.EventList.{IsKept, events_of}
use Rattle.event_list.specs.declared.EventList.TheInside.{Inside}

same_below : (n q x : ℕ) → nat_eq q x ≡ true → x < n → q < n
same_below n q x e l = let k : q ≡ x = grind (arith, nat_tests) in omega arith

rest_true : (a b : Bool) → a ≡ false → (a || b) ≡ true → b ≡ true
rest_true false b e t = t
rest_true true b e t = absurd (false≢true (sym e))

cases_bool : (b : Bool) → (b ≡ true) ⊎ (b ≡ false)
cases_bool true = inl refl
cases_bool false = inr refl

below_any : (xs : List ℕ) (n q : ℕ) → AllByRecursion (λ e. e < n) xs → list_any (nat_eq q) xs ≡ true → q < n
below_any [] n q h t = absurd (false≢true t)
below_any (x ∷ xs) n q h t =
    elim (cases_bool (nat_eq q x)) [ inl e ↦ same_below n q x e h.0 | inr e ↦ below_any xs n q h.1 (rest_true (nat_eq q x) _ e t) ]

-- different numbers below n are at most n
at_most : (n : ℕ) (xs : List ℕ) → IsDistinct nat_eq xs → AllByRecursion (λ e. e < n) xs → length xs ≤ n
at_most n xs apart below = length-le_from_distinct_below xs n apart (λ e. below_any xs n e below)

-- one that isn't there leaves room for itself
has_room : (n e : ℕ) (xs : List ℕ) → IsDistinct nat_eq xs → AllByRecursion (λ x. x < n) xs → e < n → list_any (λ x. x == e) xs ≡ false → length xs < n
has_room n e xs apart below l a = omega (arith, at_most n (insert xs 0 e) (apart_insert xs 0 e a apart) (all_insert _ xs 0 e l below), length-insert xs 0 e (omega arith))

pub kept_inserted : (q : Inside) (v : Vec ℕ Global) (i e d b : ℕ) → IsKept q → e < q.size → list_any (λ x. x == e) q.events.items ≡ false → v.items ≡ insert q.events.items i e → vec_capacity q.events ≤ vec_capacity v
    → i ≤ length q.events.items → d ≤ b → b ≤ length q.events.items + 1 → IsKept (record { events = v; depth = d; breadth = b; size = q.size })
kept_inserted q v i e d b k l a is cap il db bl = record {
  queue = subst (λ (xs : List ℕ). IsQueue (record { list = xs; depth = d; breadth = b })) (sym is) (inserted e i d b (events_of q) k.queue a il db bl);
  below = rw is (all_insert _ q.events.items i e l k.below);
  room = let r = k.room in omega arith;
}

pub kept_removed : (q : Inside) (v : Vec ℕ Global) (i d b : ℕ) → IsKept q → v.items ≡ remove q.events.items i → vec_capacity v ≡ vec_capacity q.events → i < length q.events.items → d ≡ falls i q.depth → b ≡ falls i q.breadth
    → IsKept (record { events = v; depth = d; breadth = b; size = q.size })
kept_removed q v i d b k is cap il de be = record {
  queue = rw (is, de, be) (removed i (events_of q) k.queue il);
  below = rw is (all_remove _ q.events.items i k.below);
  room = let r = k.room in omega arith;
}

pub kept_room : (q : Inside) (e : ℕ) → IsKept q → e < q.size → list_any (λ x. x == e) q.events.items ≡ false → length q.events.items < vec_capacity q.events
kept_room q e k l a = let r = k.room in omega (arith, has_room q.size e q.events.items k.queue.apart k.below l a)

pub kept_empty : (v : Vec ℕ Global) (n : ℕ) → v.items ≡ [] → n ≤ vec_capacity v → IsKept (record { events = v; depth = 0; breadth = 0; size = n })
kept_empty v n is cap = record { queue = rw is empty_is; below = rw is tt; room = cap }
