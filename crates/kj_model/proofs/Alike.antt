-- What goes is read off the nodes and the limits alone.
use Rattle.std.proofs.Common.{zero, suc, ◌≡◌, ℕ, ◌+◌, List, [], ◌∷◌, ◌++◌, true, false, not}
use Rattle.std.proofs.Common.{Option, None, Some, refl, ap, ◌∙◌}
use Rattle.std.specs.Prelude.{filter}
use Rattle.std.specs.List.{list_any}
use Rattle.kj_model.specs.Nodes.{Entry, Form, Branch, Hub, form_at, parts_of, is_in, holds}
use Rattle.kj_model.specs.World.{World}
use Rattle.kj_model.specs.Free.{Guard, Holding, Every, is_guarded}
use Rattle.kj_model.specs.Trees.{none_if}
use Rattle.kj_model.specs.Falling.{form_then, without_all, unless_kept, falling, each_falling}
use Rattle.kj_model.specs.Falling.{hub_falling, reference_falling, form_falling}

-- the nodes and the limits of two worlds are the same
pub record ReadAlike (v w : World) : Type 0 where
  pub nodes : v.nodes ≡ w.nodes
  pub limits : v.limits ≡ w.limits

guarded_alike : (guard : Guard) (hub : ℕ) (gone : List ℕ) (v w : World) → ReadAlike v w
    → is_guarded guard hub (without_all gone v) ≡ is_guarded guard hub (without_all gone w)
guarded_alike Every hub gone v w same = refl
guarded_alike (Holding ns) hub gone v w same = λ i.
    let left = filter (λ (e : Entry). not (is_in e.number gone)) (same.nodes i) in
    list_any (λ n. holds ((same.limits i).slots + 1) left n hub) ns

hub_alike : (guard : Guard) (v w : World) (falls : ℕ → List ℕ) (gone : List ℕ) (hub : ℕ)
    (o : Option Form) → ReadAlike v w
    → hub_falling guard v falls gone hub o ≡ hub_falling guard w falls gone hub o
hub_alike guard v w falls gone hub (Some (Hub content false [])) same =
    ap (λ b. unless_kept b falls hub) (guarded_alike guard hub gone v w same)
hub_alike guard v w falls gone hub (Some (Hub content false (b ∷ bs))) same = refl
hub_alike guard v w falls gone hub (Some (Hub content true bs)) same = refl
hub_alike guard v w falls gone hub None same = refl
hub_alike guard v w falls gone hub (Some _) same = refl

reference_alike : (guard : Guard) (v w : World) (falls : List ℕ → List ℕ → ℕ → List ℕ)
    (way gone : List ℕ) (n : ℕ) (form : Form) → ReadAlike v w
    → reference_falling guard v falls way gone n form
    ≡ reference_falling guard w falls way gone n form
reference_alike guard v w falls way gone n (Branch hub) same =
    let below = falls (n ∷ way) gone in
    let then = form_then (n ∷ way) gone hub in
    ap (λ (es : List Entry). hub_falling guard v below gone hub (then es)) same.nodes
    ∙ hub_alike guard v w below gone hub (then w.nodes) same
reference_alike guard v w falls way gone n _ same = refl

form_alike : (guard : Guard) (v w : World) (falls : List ℕ → List ℕ → ℕ → List ℕ)
    (way gone : List ℕ) (n : ℕ) (o : Option Form) → ReadAlike v w
    → form_falling guard v falls way gone n o ≡ form_falling guard w falls way gone n o
form_alike guard v w falls way gone n None same = refl
form_alike guard v w falls way gone n (Some form) same =
    let below = each_falling (falls way) gone (parts_of form) in
    let last = reference_alike guard v w falls way (gone ++ below) n form same in
    ap (λ ns. below ++ (ns ++ n ∷ [])) last

node_alike : (guard : Guard) (v w : World) (k : ℕ) → ReadAlike v w
    → (way gone : List ℕ) (n : ℕ) → falling guard v k way gone n ≡ falling guard w k way gone n
unfolding falling
node_alike guard v w zero same way gone n = refl
node_alike guard v w (suc k) same way gone n =
    let left = λ (es : List Entry). none_if (is_in n gone) (form_at n es) in
    let below : falling guard v k ≡ falling guard w k =
    λ i. λ ways done m. node_alike guard v w k same ways done m i in
    ap (λ falls. form_falling guard v falls way gone n (left v.nodes)) below
    ∙ ap (λ es. form_falling guard v (falling guard w k) way gone n (left es)) same.nodes
    ∙ form_alike guard v w (falling guard w k) way gone n (left w.nodes) same

-- so the same goes in both
pub falls_alike : (guard : Guard) (v w : World) (k : ℕ) → ReadAlike v w
    → falling guard v k ≡ falling guard w k
falls_alike guard v w k same = λ i. λ way gone n. node_alike guard v w k same way gone n i
