-- How many nodes live.
use Rattle.std.specs.Prelude.{ℕ, zero, suc, ◌+◌, cond}
use Rattle.kj_model.specs.World.{World}
use Rattle.promise_nodes.specs.Kept.{is_live}

-- how many nodes live with numbers below this one
abbrev pub live_below : ℕ → World → ℕ
live_below zero w = 0
live_below (suc k) w = cond (is_live w k) 1 0 + live_below k w
