-- How many cells are live, as cells change.
use Rattle.std.proofs.Common.{zero, suc, ◌≡◌, ◌≢◌, ℕ, ◌+◌, ◌≤◌, List, [], ◌∷◌, Bool, true, false, length, refl, ap, arith}
use Rattle.std.proofs.lemmas.Bool.{false≢true}
use Rattle.kj_base.specs.Places.{one_if}
use Rattle.node_arena.specs.declared.Cell.{Cell}
use Rattle.node_arena.specs.Arenas.{has_node, live_at, live_count}

at_most_one : (b : Bool) → one_if b ≤ 1
at_most_one true = omega arith
at_most_one false = omega arith

-- there are no more than cells
pub count_within : (cells : List Cell) → live_count cells ≤ length cells
count_within [] = omega arith
count_within (x ∷ xs) = let h = count_within xs in let k = at_most_one (has_node x.state) in omega arith

pub count_none : (cells : List Cell) → ((slot : ℕ) → live_at cells slot ≡ false) → live_count cells ≡ 0
count_none [] h = refl
count_none (x ∷ xs) h =
    let k = count_none xs (λ slot. h (suc slot)) in
    let e : one_if (has_node x.state) ≡ 0 = ap one_if (h zero) in
    omega arith

-- the same slots are live
pub count_same : (old new : List Cell) → length new ≡ length old → ((slot : ℕ) → live_at new slot ≡ live_at old slot) → live_count new ≡ live_count old
count_same [] [] l h = refl
count_same [] (y ∷ ys) l h = absurd (omega arith)
count_same (x ∷ xs) [] l h = absurd (omega arith)
count_same (x ∷ xs) (y ∷ ys) l h =
    let k = count_same xs ys (omega arith) (λ slot. h (suc slot)) in
    let e : one_if (has_node y.state) ≡ one_if (has_node x.state) = ap one_if (h zero) in
    omega arith

-- all but one slot are as they were
pub count_changed : (old new : List Cell) (slot : ℕ) → length new ≡ length old → ((other : ℕ) → other ≢ slot → live_at new other ≡ live_at old other) → live_count new + one_if (live_at old slot) ≡ live_count old + one_if (live_at new slot)
count_changed [] [] slot l h = refl
count_changed [] (y ∷ ys) slot l h = absurd (omega arith)
count_changed (x ∷ xs) [] slot l h = absurd (omega arith)
count_changed (x ∷ xs) (y ∷ ys) zero l h =
    let k = count_same xs ys (omega arith) (λ other. h (suc other) (λ e. absurd (omega arith))) in
    omega arith
count_changed (x ∷ xs) (y ∷ ys) (suc n) l h =
    let k = count_changed xs ys n (omega arith) (λ other d. h (suc other) (λ e. d (omega arith))) in
    let e : one_if (has_node y.state) ≡ one_if (has_node x.state) = ap one_if (h zero (λ e. absurd (omega arith))) in
    omega arith

count_more : (b : Bool) (n : ℕ) → b ≡ true → 1 ≤ one_if b + n
count_more true n h = omega arith
count_more false n h = absurd (false≢true h)

-- there is one where a slot is live
pub count_some : (cells : List Cell) (slot : ℕ) → live_at cells slot ≡ true → 1 ≤ live_count cells
count_some [] slot h = absurd (false≢true h)
count_some (x ∷ xs) zero h = count_more (has_node x.state) (live_count xs) h
count_some (x ∷ xs) (suc n) h = let k = count_some xs n h in omega arith
