-- Counts that never fall.
use Rattle.std.specs.Prelude.{◌≡◌, ℕ, ◌+◌, ◌-◌, ◌^◌, ◌≤◌, min, Bool, true, false}

-- one more than before, or at the end of its type
abbrev pub Rose : ℕ → ℕ → Type 0
Rose before now = min (before + 1) (2 ^ 64 - 1) ≤ now

-- the count rose where memory was lacking, and else it stands
abbrev pub HasLacked : Bool → ℕ → ℕ → Type 0
HasLacked true before now = Rose before now
HasLacked false before now = now ≡ before
