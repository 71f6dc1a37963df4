-- What a tree has under each key, and how it is divided.
use Rattle.std.specs.Prelude.{◌≡◌, ℕ, ◌+◌, ◌-◌, ◌/◌, ◌<◌, ◌≤◌, ◌==◌, Option, None, Some, IsSome, if◌then◌else◌}
use Rattle.name_tree.specs.declared.tree.Tree.{Tree}
use Rattle.name_tree.specs.declared.tree.Tree.TheVariants.{Empty, Fork'}

-- the first of two that is there
abbrev pub first_of : {V : Type 0} → Option V → Option V → Option V
first_of None other = other
first_of (Some value) other = Some value

-- what a key has
abbrev pub value_at : {V : Type 0} → ℕ → Tree V → Option V
value_at n Empty = None
value_at n (Fork' p key value low high) = if key == n then Some value else first_of (value_at n low) (value_at n high)

-- how many keys there are
abbrev pub count_of : {V : Type 0} → Tree V → ℕ
count_of Empty = 0
count_of (Fork' p key value low high) = 1 + (count_of low + count_of high)

-- keys below the cut are on the low side, the others on the high one, and this key is on neither
pub record Divides {V : Type 0} (at key : ℕ) (low high : Tree V) : Type 0 where
  pub below : (n : ℕ) → IsSome (value_at n low) → n < at
  pub from : (n : ℕ) → IsSome (value_at n high) → at ≤ n
  pub not_low : value_at key low ≡ None
  pub not_high : value_at key high ≡ None

-- it is divided here, and so is each side, a step further
abbrev pub IsSplit : {V : Type 0} → ℕ → ℕ → Tree V → Type 0
IsSplit at step Empty = Unit {0}
IsSplit at step (Fork' p key value low high) = Divides at key low high × IsSplit (at - step) (step / 2) low × IsSplit (at + step) (step / 2) high

-- one key has this now, and the others have what they had
abbrev pub IsSetAt : {V : Type 0} → ℕ → Option V → Tree V → Tree V → Type 0
IsSetAt key value old new = (n : ℕ) → value_at n new ≡ (if key == n then value else value_at n old)

-- how many there are of what may be absent
abbrev pub one_if : {A : Type 0} → Option A → ℕ
one_if None = 0
one_if (Some a) = 1

-- none where no key is there, and else the lowest of the keys
abbrev pub IsLowest : {V : Type 0} → Option ℕ → Tree V → Type 0
IsLowest None t = (n : ℕ) → value_at n t ≡ None
IsLowest (Some key) t = IsSome (value_at key t) × ((n : ℕ) → IsSome (value_at n t) → key ≤ n)
