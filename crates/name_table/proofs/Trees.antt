-- Trees that are left over, by their numbers.
use Rattle.std.proofs.Common.{◌≡◌, ℕ, Bool, true, false, List, [], ◌∷◌, refl, ap}
use Rattle.std.specs.Prelude.{nat_eq, filter}
use Rattle.kj_base.specs.declared.nodes.Link.{Link}
use Rattle.kj_model.specs.Nodes.{dropped}
use Rattle.name_table.specs.Table.{trees, is_other}

dropped_step : (n : ℕ) (x : Link) (xs : List Link) (b : Bool) → nat_eq x.number.0 n ≡ b → trees (filter (is_other n) xs) ≡ dropped n (trees xs) → trees (filter (is_other n) (x ∷ xs)) ≡ dropped n (trees (x ∷ xs))
dropped_step n x xs true t ih = rw t ih
dropped_step n x xs false t ih = rw t (ap (λ (l : List ℕ). x.number.0 ∷ l) ih)

pub trees_dropped : (n : ℕ) (xs : List Link) → trees (filter (is_other n) xs) ≡ dropped n (trees xs)
trees_dropped n [] = refl
trees_dropped n (x ∷ xs) = dropped_step n x xs (nat_eq x.number.0 n) refl (trees_dropped n xs)
