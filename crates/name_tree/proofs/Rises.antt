-- The names of a tree stand in its list, by rising name.
use Rattle.std.proofs.Common.{◌≡◌, ℕ, Box, Global, ◌+◌, ◌-◌, ◌/◌, ◌<◌, ◌≤◌, Bool, true, false, List, [], ◌∷◌, ◌++◌, Option, None, Some, length, refl, ◌∙◌, subst, arith, length-append}
use Rattle.std.specs.Prelude.{nat_eq, nat_lt, IsSome}
use Rattle.std.specs.List.{AllByRecursion}
use Rattle.promise_names.specs.declared.names.Held.{Held}
use Rattle.name_table.specs.declared.entries.Entry.{Entry}
use Rattle.name_table.specs.Entries.{IsRising, held_in, with_entry}
use Rattle.name_table.proofs.Ranks.{AreAbove, same_is}
use Rattle.name_table.proofs.Rising.{rising_with, held_with, held_other, equal}
use Rattle.name_tree.specs.declared.tree.Tree.{Tree}
use Rattle.name_tree.specs.declared.tree.Tree.TheVariants.{Empty, Fork'}
use Rattle.name_tree.specs.Trees.{first_of, value_at, count_of, IsSplit, Divides}
use Rattle.name_tree.specs.Listed.{listed}

-- ---- what a name holds in two lists, one behind the other

append_step : (n : ℕ) (e : Entry) (xs ys : List Entry) (b : Bool) → nat_eq e.name.0 n ≡ b → held_in n (xs ++ ys) ≡ first_of (held_in n xs) (held_in n ys)
    → held_in n ((e ∷ xs) ++ ys) ≡ first_of (held_in n (e ∷ xs)) (held_in n ys)
append_step n e xs ys true t ih = rw t refl
append_step n e xs ys false t ih = rw t ih

held_append : (n : ℕ) (xs ys : List Entry) → held_in n (xs ++ ys) ≡ first_of (held_in n xs) (held_in n ys)
held_append n [] ys = refl
held_append n (e ∷ xs) ys = append_step n e xs ys (nat_eq e.name.0 n) refl (held_append n xs ys)

-- ---- what a name of the tree holds in its list

abbrev both : Tree Held → Tree Held → List Entry
both low high = listed low ++ listed high

held_both : (low high : Tree Held) → ((m : ℕ) → held_in m (listed low) ≡ value_at m low) → ((m : ℕ) → held_in m (listed high) ≡ value_at m high)
    → (m : ℕ) → held_in m (both low high) ≡ first_of (value_at m low) (value_at m high)
held_both low high l h m = held_append m (listed low) (listed high) ∙ rw (l m, h m) refl

none_both : (at key : ℕ) (low high : Tree Held) → Divides at key low high → ((m : ℕ) → held_in m (listed low) ≡ value_at m low) → ((m : ℕ) → held_in m (listed high) ≡ value_at m high)
    → held_in key (both low high) ≡ None
none_both at key low high d l h = held_both low high l h key ∙ rw (d.not_low, d.not_high) refl

held_step : (n : ℕ) (x : Entry) (low high : Tree Held) (p : Box (Unit {0}) Global) (b : Bool) → nat_eq x.name.0 n ≡ b → held_in x.name.0 (both low high) ≡ None
    → held_in n (both low high) ≡ first_of (value_at n low) (value_at n high) → held_in n (with_entry x (both low high)) ≡ value_at n (Fork' p x.name.0 x.held low high)
held_step n x low high p true t none is = rw t (subst (λ (m : ℕ). held_in m (with_entry x (both low high)) ≡ Some x.held) (same_is x.name.0 n t) (held_with x (both low high) none))
held_step n x low high p false t none is = rw t (held_other x n (both low high) t ∙ is)

pub held_listed : (t : Tree Held) (at step : ℕ) → IsSplit at step t → (n : ℕ) → held_in n (listed t) ≡ value_at n t
held_listed Empty at step split n = refl
held_listed (Fork' p key value low high) at step split n =
    let l = held_listed low (at - step) (step / 2) split.1 in
    let h = held_listed high (at + step) (step / 2) split.2 in
    held_step n (record { name = record { 0 = key }; held = value }) low high p (nat_eq key n) refl (none_both at key low high split.0 l h) (held_both low high l h n)

-- ---- the list rises

some_here : (e : Entry) (es : List Entry) → IsSome (held_in e.name.0 (e ∷ es))
some_here e es = rw (equal e.name.0) refl

some_step : (n : ℕ) (e : Entry) (es : List Entry) (b : Bool) → nat_eq e.name.0 n ≡ b → IsSome (held_in n es) → IsSome (held_in n (e ∷ es))
some_step n e es true t some = rw t refl
some_step n e es false t some = rw t some

all_held : (P : ℕ → Type 0) (es : List Entry) → ((n : ℕ) → IsSome (held_in n es) → P n) → AllByRecursion (λ (e : Entry). P e.name.0) es
all_held P [] h = tt
all_held P (e ∷ es) h = (h e.name.0 (some_here e es), all_held P es (λ n some. h n (some_step n e es (nat_eq e.name.0 n) refl some)))

above_append : (n at : ℕ) (xs ys : List Entry) → n < at → AreAbove n xs → AllByRecursion (λ (e : Entry). at ≤ e.name.0) ys → AreAbove n (xs ++ ys)
above_append n at [] [] less all from = tt
above_append n at [] (y ∷ ys) less all from = (omega (arith, less, from.0), above_append n at [] ys less all from.1)
above_append n at (x ∷ xs) ys less all from = (all.0, above_append n at xs ys less all.1 from)

rising_append : (at : ℕ) (xs ys : List Entry) → IsRising xs → IsRising ys → AllByRecursion (λ (e : Entry). e.name.0 < at) xs → AllByRecursion (λ (e : Entry). at ≤ e.name.0) ys → IsRising (xs ++ ys)
rising_append at [] ys rx ry below from = ry
rising_append at (x ∷ xs) ys rx ry below from = (above_append x.name.0 at xs ys below.0 rx.0 from, rising_append at xs ys rx.1 ry below.1 from)

pub rising_listed : (t : Tree Held) (at step : ℕ) → IsSplit at step t → IsRising (listed t)
rising_listed Empty at step split = tt
rising_listed (Fork' p key value low high) at step split =
    let l = held_listed low (at - step) (step / 2) split.1 in
    let h = held_listed high (at + step) (step / 2) split.2 in
    let below = all_held (λ (n : ℕ). n < at) (listed low) (λ n some. split.0.below n (subst (λ (o : Option Held). IsSome o) (l n) some)) in
    let from = all_held (λ (n : ℕ). at ≤ n) (listed high) (λ n some. split.0.from n (subst (λ (o : Option Held). IsSome o) (h n) some)) in
    rising_with (record { name = record { 0 = key }; held = value }) (both low high)
    (rising_append at (listed low) (listed high) (rising_listed low (at - step) (step / 2) split.1) (rising_listed high (at + step) (step / 2) split.2) below from)
    (none_both at key low high split.0 l h)

-- ---- as many as there are

length_step : (x e : Entry) (es : List Entry) (b : Bool) → nat_lt x.name.0 e.name.0 ≡ b → length (with_entry x es) ≡ 1 + length es → length (with_entry x (e ∷ es)) ≡ 1 + length (e ∷ es)
length_step x e es true t ih = rw t (omega arith)
length_step x e es false t ih = rw t (omega (arith, ih))

length_with : (x : Entry) (es : List Entry) → length (with_entry x es) ≡ 1 + length es
length_with x [] = refl
length_with x (e ∷ es) = length_step x e es (nat_lt x.name.0 e.name.0) refl (length_with x es)

pub length_listed : (t : Tree Held) → length (listed t) ≡ count_of t
length_listed Empty = refl
length_listed (Fork' p key value low high) =
    let l = length_listed low in
    let h = length_listed high in
    length_with (record { name = record { 0 = key }; held = value }) (both low high) ∙ omega (arith, length-append (listed low) (listed high), l, h)
