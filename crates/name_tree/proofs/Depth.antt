-- A tree that is divided in halves is no deeper than its keys have bits.
use Rattle.std.proofs.Common.{◌≡◌, ℕ, zero, suc, ◌+◌, ◌-◌, ◌*◌, ◌/◌, ◌<◌, ◌≤◌, Box, Global, Bool, true, false, Option, None, Some, refl, ap, ◌∙◌, subst, arith}
use Rattle.std.specs.Prelude.{nat_eq, IsSome}
use Rattle.std.proofs.Math.Nat.{mul-div_cancel_left}
use Rattle.std.proofs.lemmas.Bool.Decides.{nat_tests}
use Rattle.name_tree.specs.declared.tree.Tree.{Tree}
use Rattle.name_tree.specs.declared.tree.Tree.TheVariants.{Empty, Fork'}
use Rattle.name_tree.specs.Trees.{first_of, value_at, IsSplit}
use Rattle.name_tree.specs.declared.cut.Cut.{Cut}
use Rattle.name_tree.specs.declared.map.KeyMap.{KeyMap}
use Rattle.name_tree.specs.Cuts.{name_cut, root_cut}
use Rattle.name_tree.specs.Maps.{IsMap}
use Rattle.name_tree.specs.Depth.{depth_of}

-- how many keys have so many bits
abbrev span : ℕ → ℕ
span zero = 1
span (suc k) = 2 * span k

half : (k : ℕ) → span (suc k) / 2 ≡ span k
half k = mul-div_cancel_left (span k) (omega arith)

-- the keys from a lowest one on that have so many bits are divided in the middle, and so on
abbrev IsHalved : ℕ → ℕ → ℕ → ℕ → Type 0
IsHalved zero low at step = Unit {0}
IsHalved (suc k) low at step = (at ≡ low + span k) × (step ≡ span k / 2)

-- each key is one of them
abbrev AreWithin : {V : Type 0} → ℕ → ℕ → Tree V → Type 0
AreWithin k low t = (n : ℕ) → IsSome (value_at n t) → (low ≤ n) × (n < low + span k)

halved_low : (k low at step : ℕ) → at ≡ low + span k → step ≡ span k / 2 → IsHalved k low (at - step) (step / 2)
halved_low zero low at step is by = tt
halved_low (suc k) low at step is by =
    let h : step ≡ span k = by ∙ half k in
    (omega (arith, is, h), ap (λ (n : ℕ). n / 2) h)

halved_high : (k low at step : ℕ) → at ≡ low + span k → step ≡ span k / 2 → IsHalved k at (at + step) (step / 2)
halved_high zero low at step is by = tt
halved_high (suc k) low at step is by =
    let h : step ≡ span k = by ∙ half k in
    (omega (arith, h), ap (λ (n : ℕ). n / 2) h)

-- ---- a key below a node is a key of the node

none_some : (V : Type 0) → IsSome {T = V} None → ⊥
none_some V some = cc

none_of : {V : Type 0} (o : Option V) → (IsSome o → ⊥) → o ≡ None
none_of None h = refl
none_of (Some value) h = absurd (h refl)

some_first : {V : Type 0} (a b : Option V) → IsSome a → IsSome (first_of a b)
some_first {V} None b some = absurd (none_some V some)
some_first {V} (Some value) b some = refl

some_second : {V : Type 0} (a b : Option V) → IsSome b → IsSome (first_of a b)
some_second None b some = some
some_second (Some value) b some = refl

below_is : {V : Type 0} (p : Box (Unit {0}) Global) (key : ℕ) (value : V) (low high : Tree V) (n : ℕ) (b : Bool) → nat_eq key n ≡ b
    → IsSome (first_of (value_at n low) (value_at n high)) → IsSome (value_at n (Fork' p key value low high))
below_is p key value low high n true t some = rw t refl
below_is p key value low high n false t some = rw t some

same_key : (n : ℕ) → nat_eq n n ≡ true
same_key n = grind (arith, nat_tests)

some_here : {V : Type 0} (p : Box (Unit {0}) Global) (key : ℕ) (value : V) (low high : Tree V) → IsSome (value_at key (Fork' p key value low high))
some_here p key value low high = rw (same_key key) refl

empty_depth : {V : Type 0} (t : Tree V) → ((n : ℕ) → value_at n t ≡ None) → depth_of t ≡ 0
empty_depth {V} Empty none = refl
empty_depth {V} (Fork' p key value low high) none =
    absurd (none_some V (subst (λ (o : Option V). IsSome o) (none key) (some_here p key value low high)))

-- a side of a node whose key is the only one
alone : {V : Type 0} (key : ℕ) (side : Tree V) → value_at key side ≡ None → ((n : ℕ) → IsSome (value_at n side) → n ≡ key) → depth_of side ≡ 0
alone {V} key side none only =
    empty_depth side (λ n. none_of (value_at n side) (λ some. none_some V (subst (λ (o : Option V). IsSome o) none (subst (λ (m : ℕ). IsSome (value_at m side)) (only n some) some))))

pub depth_le : {V : Type 0} (t : Tree V) (k low at step : ℕ) → IsHalved k low at step → AreWithin k low t → IsSplit at step t → depth_of t ≤ k + 1
depth_le Empty k low at step halved within split = omega arith
depth_le (Fork' p key value below above) zero low at step halved within split =
    let here = within key (some_here p key value below above) in
    let one = alone key below split.0.not_low (λ n some. let w = within n (below_is p key value below above n (nat_eq key n) refl (some_first (value_at n below) (value_at n above) some)) in omega (arith, w, here)) in
    let other = alone key above split.0.not_high (λ n some. let w = within n (below_is p key value below above n (nat_eq key n) refl (some_second (value_at n below) (value_at n above) some)) in omega (arith, w, here)) in
    omega (arith, one, other)
depth_le (Fork' p key value below above) (suc k) low at step halved within split =
    let one = depth_le below k low (at - step) (step / 2) (halved_low k low at step halved.0 halved.1) (λ n some.
    let w = within n (below_is p key value below above n (nat_eq key n) refl (some_first (value_at n below) (value_at n above) some)) in
    let less = split.0.below n some in
    (w.0, omega (arith, less, halved.0))) split.1 in
    let other = depth_le above k at (at + step) (step / 2) (halved_high k low at step halved.0 halved.1) (λ n some.
    let w = within n (below_is p key value below above n (nat_eq key n) refl (some_second (value_at n below) (value_at n above) some)) in
    let from = split.0.from n some in
    (from, omega (arith, w, halved.0))) split.2 in
    omega (arith, one, other)

-- ---- the two maps of names

pub names_depth : {V : Type 0} (m : KeyMap V) → m.cut ≡ name_cut → IsMap m → depth_of m.tree ≤ 33
names_depth m is map =
    let at : m.cut.at ≡ 0 + span 31 = ap (λ (c : Cut). c.at) is in
    let step : m.cut.step ≡ span 31 / 2 = ap (λ (c : Cut). c.step) is in
    depth_le m.tree 32 0 m.cut.at m.cut.step (at, step) (λ n some. let w = map.within n some in (omega arith, omega (arith, w, at))) map.split

pub roots_depth : {V : Type 0} (m : KeyMap V) → m.cut ≡ root_cut → IsMap m → depth_of m.tree ≤ 65
roots_depth m is map =
    let at : m.cut.at ≡ 0 + span 63 = ap (λ (c : Cut). c.at) is in
    let step : m.cut.step ≡ span 63 / 2 = ap (λ (c : Cut). c.step) is in
    depth_le m.tree 64 0 m.cut.at m.cut.step (at, step) (λ n some. let w = map.within n some in (omega arith, omega (arith, w, at))) map.split
