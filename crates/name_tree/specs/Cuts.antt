-- Where a tree is divided.
use Rattle.std.specs.Prelude.{ℕ, ◌+◌, ◌*◌, ◌^◌, ◌<◌, ◌≤◌}
use Rattle.name_tree.specs.declared.cut.Cut.{Cut}

-- names have 32 bits
abbrev pub name_cut : Cut
name_cut = record { at = 2 ^ 31; step = 2 ^ 30 }

-- numbers of trees have 64
abbrev pub root_cut : Cut
root_cut = record { at = 2 ^ 63; step = 2 ^ 62 }

-- both sides can be divided further
pub record IsCut (at step : ℕ) : Type 0 where
  pub low : step * 2 ≤ at
  pub high : at + step * 2 ≤ 2 ^ 64
  pub fits : at < 2 ^ 64
