-- Numbers that follow each other.
use Rattle.std.proofs.Common.{◌≡◌, ℕ, zero, suc, ◌-◌, ◌<◌, Bool, true, false, refl, sym, ap, ◌∙◌, arith}
use Rattle.std.specs.Prelude.{◌==◌, ◌||◌, if◌then◌else◌}
use Rattle.kj_model.specs.Nodes.{is_in}
use Rattle.promise_nodes.specs.Shown.{run_from, next_number}

-- the first of them, or one of the others
pub run_step : (n left at next : ℕ) → 0 < left → next ≡ next_number at → is_in n (run_from left at) ≡ ((at == n) || is_in n (run_from (left - 1) next))
run_step n zero at next p e = absurd (omega (arith, p))
run_step n (suc k) at next p e =
    let down : k ≡ suc k - 1 = omega arith in
    ap (λ (j : ℕ). (at == n) || is_in n (run_from j (next_number at))) down ∙ ap (λ (x : ℕ). (at == n) || is_in n (run_from (suc k - 1) x)) (sym e)

pub taken_step : (b c : Bool) (x y : ℕ) → (if b || c then x else y) ≡ (if c then x else if b then x else y)
taken_step true true x y = refl
taken_step true false x y = refl
taken_step false c x y = refl
