-- One Side of a run, and those behind it.
use Rattle.std.proofs.Common.{◌≡◌, ℕ, suc, ◌-◌, Bool, true, false, sym, ap, ◌∙◌, arith, ◌<◌, ◌||◌}
use Rattle.std.specs.List.{list_any}
use Rattle.promise_nodes.specs.Shown.{run_from, next_number}

up_one : (left : ℕ) → 0 < left → left ≡ suc (left - 1)
up_one left h = omega (arith, h)

at_first : (test : ℕ → Bool) (left n : ℕ) → 0 < left → list_any test (run_from left n) ≡ (test n || list_any test (run_from (left - 1) (next_number n)))
at_first test left n h = ap (λ (j : ℕ). list_any test (run_from j n)) (up_one left h)

-- the first passes the test
pub found_first : (test : ℕ → Bool) (left n : ℕ) → 0 < left → true ≡ test n → true ≡ list_any test (run_from left n)
found_first test left n h t = sym (at_first test left n h ∙ ap (λ (b : Bool). b || list_any test (run_from (left - 1) (next_number n))) (sym t))

-- the first doesn't, so it depends on the others
pub found_later : (test : ℕ → Bool) (left n next : ℕ) → 0 < left → false ≡ test n → next ≡ next_number n → list_any test (run_from left n) ≡ list_any test (run_from (left - 1) next)
found_later test left n next h t e =
    at_first test left n h
    ∙ ap (λ (b : Bool). b || list_any test (run_from (left - 1) (next_number n))) (sym t)
    ∙ ap (λ (m : ℕ). list_any test (run_from (left - 1) m)) (sym e)
