-- Jobs before and after their work.
use Rattle.std.specs.Prelude.{◌≡◌, ℕ, List, Some, slice_get}

-- each job stands so to the one at the same place
abbrev pub Each : {J : Type 0} → (J → J → Type 0) → List J → List J → Type 0
Each {J} done before after =
    (i : ℕ) (x y : J) → slice_get before i ≡ Some x → slice_get after i ≡ Some y → done x y
