-- Whether the steps of a setting find memory.
use Rattle.std.specs.Prelude.{◌≡◌, ℕ, List, None}
use Rattle.kj_base.specs.Record.{Item}
use Rattle.kj_model.specs.World.{Setting}

-- each step finds its memory, whatever was told
abbrev pub FindsMemory : Setting → Type 0
FindsMemory setting = (past : List Item) (step : ℕ) → setting.answer past step ≡ None → ⊥

-- a step would find no memory after this record
abbrev pub LacksMemory : Setting → List Item → Type 0
LacksMemory setting past = (step : ℕ) × (setting.answer past step ≡ None)
