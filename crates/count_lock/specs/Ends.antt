-- What a place of an end is.
use Rattle.std.specs.Prelude.{◌≡◌, ◌⊎◌, ℕ, ◌<◌, List, [], ◌∷◌, ◌++◌, length, Option, Some}

-- a longer history keeps it, it is a place of the history, and a new one is that of the last entry
pub record EndLaws {E : Type 0} (fin : ℕ → List E → ℕ → Option ℕ) : Type 0 where
  pub stays : (c : ℕ) (es more : List E) (k p : ℕ) → fin c es k ≡ Some p → fin c (es ++ more) k ≡ Some p
  pub within : (c : ℕ) (es : List E) (k p : ℕ) → fin c es k ≡ Some p → p < length es
  pub fresh : (c : ℕ) (es : List E) (e : E) (k p : ℕ) → fin c (es ++ e ∷ []) k ≡ Some p → (fin c es k ≡ Some p) ⊎ (p ≡ length es)
