-- The longest ways.
use Rattle.std.proofs.Common.{ℕ, zero, suc, ◌+◌, ◌*◌, ◌<◌, ◌≤◌, arith, mul-le-mul_right}
use Rattle.promise_walks.specs.Stacks.{cost}

pub cost_positive : (k : ℕ) → 0 < cost k
cost_positive zero = omega arith
cost_positive (suc k) = omega arith

pub fits_cost : (c k : ℕ) → c < 256 → 1 + c * cost k < cost (suc k)
fits_cost c k h = let m : c * cost k ≤ 255 * cost k = mul-le-mul_right {m = c} {n = 255} (cost k) (omega (arith, h)) in omega (arith, m)
