-- Lists without a number.
use Rattle.std.proofs.Common.{◌≡◌, ℕ, List, [], ◌∷◌, ◌++◌, Bool, true, false, refl, ap, arith}
use Rattle.std.specs.Prelude.{nat_eq}
use Rattle.std.proofs.lemmas.Bool.Decides.{nat_tests}
use Rattle.kj_model.specs.Nodes.{dropped}

here : (b : Bool) (n m : ℕ) (ms : List ℕ) → nat_eq m n ≡ b → dropped n (ms ++ n ∷ []) ≡ dropped n ms → dropped n ((m ∷ ms) ++ n ∷ []) ≡ dropped n (m ∷ ms)
here true n m ms e h = rw e h
here false n m ms e h = rw e (ap (λ (l : List ℕ). m ∷ l) h)

-- the last one goes like the others
pub dropped_last : (n : ℕ) (ms : List ℕ) → dropped n (ms ++ n ∷ []) ≡ dropped n ms
dropped_last n [] = let same : nat_eq n n ≡ true = grind (arith, nat_tests) in rw same refl
dropped_last n (m ∷ ms) = here (nat_eq m n) n m ms refl (dropped_last n ms)
