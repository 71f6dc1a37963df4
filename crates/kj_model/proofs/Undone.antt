-- Disarming undoes arming.
use Rattle.std.proofs.Common.{zero, suc, ◌≡◌, ℕ, ◌+◌, ◌≤◌, List, [], ◌∷◌, length, true, false, arith, refl, Some, ap}
use Rattle.std.specs.Prelude.{nat_eq, nat_lt, ◌==◌, insert, remove, position}
use Rattle.std.specs.List.{list_any, position_or_len}
use Rattle.std.proofs.lemmas.Bool.{or_parts}
use Rattle.std.proofs.lemmas.Bool.Decides.{nat_tests}
use Rattle.std.proofs.lemmas.List.Edits.{length-insert}
use Rattle.kj_base.specs.Queue.{Events, Way, DepthFirst, BreadthFirst, AtLast, IsQueue, is_armed, armed, falls, disarmed}

same : (e : ℕ) → nat_eq e e ≡ true
same e = grind (arith, nat_tests)

removed : (xs : List ℕ) (i e : ℕ) → i ≤ length xs → remove (insert xs i e) i ≡ xs
removed [] zero e h = refl
removed [] (suc i) e h = grind arith
removed (x ∷ xs) zero e h = refl
removed (x ∷ xs) (suc i) e h = ap (λ ys. x ∷ ys) (removed xs i e (omega arith))

at_insert : (xs : List ℕ) (i e : ℕ) → i ≤ length xs → list_any (λ x. x == e) xs ≡ false → position_or_len (λ x. x == e) (insert xs i e) ≡ i
at_insert [] zero e h n = rw (same e) refl
at_insert [] (suc i) e h n = grind arith
at_insert (x ∷ xs) zero e h n = rw (same e) refl
at_insert (x ∷ xs) (suc i) e h n = let p = or_parts (nat_eq x e) (list_any (λ x. x == e) xs) n in rw p.0 (let k = at_insert xs i e (omega arith) p.1 in omega (arith, k))

found : (xs : List ℕ) (i e : ℕ) → i ≤ length xs → list_any (λ x. x == e) xs ≡ false → position (λ x. x == e) (insert xs i e) ≡ Some i
found xs i e h n = let k = at_insert xs i e h n in let l = length-insert xs i e h in
    let t : nat_lt i (length (insert xs i e)) ≡ true = grind (arith, nat_tests) in
    rw (k, t) refl

built : (q : Events) (xs : List ℕ) (d b : ℕ) → xs ≡ q.list → d ≡ q.depth → b ≡ q.breadth → (let r : Events = record { list = xs; depth = d; breadth = b } in r) ≡ q
built q xs d b h k l = rw (h, k, l) refl

-- an event that was put at this place, and the points that came of it
out : (e i d b : ℕ) (q : Events) → i ≤ length q.list → is_armed e q ≡ false → falls i d ≡ q.depth → falls i b ≡ q.breadth → disarmed e (record { list = insert q.list i e; depth = d; breadth = b }) ≡ q
out e i d b q il n hd hb = rw (found q.list i e il n) (built q _ _ _ (removed q.list i e il) hd hb)

above : (p : ℕ) (b : ℕ) → p ≤ b → falls p (b + 1) ≡ b
above p b h = grind (arith, nat_tests)

below : (p : ℕ) (d : ℕ) → d ≤ p → falls p d ≡ d
below p d h = grind (arith, nat_tests)

pub undone : (way : Way) (e : ℕ) (q : Events) → IsQueue q → is_armed e q ≡ false → disarmed e (armed way e q) ≡ q
undone DepthFirst e q k n = rw n (let d = k.depth in let b = k.breadth in out e q.depth (q.depth + 1) (q.breadth + 1) q (omega arith) n (above q.depth q.depth (omega arith)) (above q.depth q.breadth (omega arith)))
undone BreadthFirst e q k n = rw n (let d = k.depth in let b = k.breadth in out e q.breadth q.depth (q.breadth + 1) q b n (below q.breadth q.depth d) (above q.breadth q.breadth (omega arith)))
undone AtLast e q k n = rw n (let d = k.depth in let b = k.breadth in out e q.breadth q.depth q.breadth q b n (below q.breadth q.depth d) (below q.breadth q.breadth (omega arith)))
