-- A node's key is gone where one from below took its place.
use Rattle.std.proofs.Common.{◌≡◌, ℕ, Box, Global, sym, subst}
use Rattle.name_tree.specs.declared.tree.Tree.{Tree}
use Rattle.name_tree.specs.declared.tree.Node.{Node}
use Rattle.name_tree.specs.declared.tree.Tree.TheVariants.{Fork}
use Rattle.name_tree.specs.Leaves.{HasLost, topped}

-- where a node lies
abbrev pub place_of : {V : Type 0} → Box (Node V) Global → Box (Unit {0}) Global
place_of box = record { ptr = box.ptr; alloc = box.alloc; value = tt }

pub moved : {V : Type 0} (key : ℕ) (t : Tree V) (box : Box (Node V) Global) (seen new : Node V) → t ≡ Fork box → seen ≡ box.value
    → ((p q : Box (Unit {0}) Global) → HasLost seen.key seen.value (topped p seen) (topped q new)) → seen.key ≡ key → HasLost key seen.value t (topped (place_of box) new)
moved key t box seen new is same lost named =
    let here = lost (place_of box) (place_of box) in
    let top : HasLost seen.key seen.value (Fork box) (topped (place_of box) new) = subst (λ (n : Node _). HasLost seen.key seen.value (topped (place_of box) n) (topped (place_of box) new)) same here in
    subst (λ (k : ℕ). HasLost k seen.value t (topped (place_of box) new)) named
    (subst (λ (x : Tree _). HasLost seen.key seen.value x (topped (place_of box) new)) (sym is) top)
