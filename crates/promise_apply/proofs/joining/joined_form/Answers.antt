use Rattle.std.proofs.Common.{◌≡◌, ℕ, suc, ◌+◌, ◌<◌, ◌^◌, List, [], ◌∷◌, length, true, false, refl, sym, ap, subst, ◌∙◌, arith}
use Rattle.kj_model.specs.Nodes.{Join}
use Rattle.kj_model.specs.Effects.{numbers_from}
use Rattle.promise_nodes.specs.Shown.{run_from, next_number}
use Rattle.promise_apply.proofs.joining.joined_form.Goals as goal

up_one : (n k : ℕ) → n + suc k < 2 ^ 64 → next_number n ≡ n + 1
up_one n k low = omega (arith, low)

more_low : (n k : ℕ) → n + suc k < 2 ^ 64 → n + 1 + k < 2 ^ 64
more_low n k low = omega (arith, low)

run_numbers : (xs : List ℕ) (n : ℕ) → n + length xs < 2 ^ 64 → run_from (length xs) n ≡ numbers_from n xs
run_numbers [] n low = refl
run_numbers (x ∷ xs) n low =
    ap (λ (m : ℕ). n ∷ run_from (length xs) m) (up_one n (length xs) low)
    ∙ ap (λ (ns : List ℕ). n ∷ ns) (run_numbers xs (n + 1) (more_low n (length xs) low))

run_of : (xs : List ℕ) (count n : ℕ) → length xs ≡ count → n + count < 2 ^ 64 → run_from count n ≡ numbers_from n xs
run_of xs count n e low = subst (λ (k : ℕ). run_from k n ≡ numbers_from n xs) e (run_numbers xs n (subst (λ (k : ℕ). n + k < 2 ^ 64) (sym e) low))

pub returns-in-All-clause-shown : goal.returns-in-All-clause-shown
returns-in-All-clause-shown c sources e low = rw c.in-All.is (ap (λ (ns : List ℕ). Join false ns) (run_of sources c.args.count c.args.first.number.0 e low))

pub returns-in-Fast-clause-shown : goal.returns-in-Fast-clause-shown
returns-in-Fast-clause-shown c sources e low = rw c.in-Fast.is (ap (λ (ns : List ℕ). Join true ns) (run_of sources c.args.count c.args.first.number.0 e low))
