-- The stack of the search, against whether a tree holds a node.
use Rattle.std.proofs.Common.{◌≡◌, ℕ, zero, suc, ◌+◌, ◌-◌, ◌*◌, ◌<◌, List, [], ◌∷◌, ◌++◌, Option, None, Some, Bool, true, false, refl, sym, ap, ◌∙◌, arith, length}
use Rattle.std.specs.Prelude.{◌||◌, ◌==◌}
use Rattle.std.specs.List.{list_any}
use Rattle.std.proofs.lemmas.Bool.Decides.{nat_tests}
use Rattle.kj_model.specs.Nodes.{Form, Entry, form_at, parts_found, holds}
use Rattle.promise_nodes.specs.Shown.{next_number, run_from}
use Rattle.promise_walks.specs.declared.shape.Parts.{Parts}
use Rattle.promise_walks.specs.declared.shape.Shape.{Shape}
use Rattle.promise_walks.specs.Shapes.{numbers_of, SeesShape}
use Rattle.promise_walks.specs.Stacks.{cost, seek, weigh_parts}
use Rattle.promise_walks.proofs.Costs.{fits_cost}

or_assoc : (a b c : Bool) → ((a || b) || c) ≡ ((a || c) || b)
or_assoc true b c = refl
or_assoc false true true = refl
or_assoc false true false = refl
or_assoc false false true = refl
or_assoc false false false = refl

pub seek_push : (nodes : List Entry) (n d k : ℕ) (xs : List Parts) (x : Parts) → d ≡ length xs + suc k → seek nodes n d (xs ++ x ∷ []) ≡ (seek nodes n d xs || list_any (holds k nodes n) (numbers_of x))
seek_push nodes n zero k [] x e = absurd (omega (arith, e))
seek_push nodes n (suc d) k [] x e = let same : d ≡ k = omega (arith, e) in ap (λ (j : ℕ). list_any (holds j nodes n) (numbers_of x)) same
seek_push nodes n zero k (y ∷ xs) x e = absurd (omega (arith, e))
seek_push nodes n (suc d) k (y ∷ xs) x e =
    ap (λ (b : Bool). b || list_any (holds d nodes n) (numbers_of y)) (seek_push nodes n d k xs x (omega (arith, e)))
    ∙ or_assoc (seek nodes n d xs) (list_any (holds k nodes n) (numbers_of x)) (list_any (holds d nodes n) (numbers_of y))

pub parts_push : (d k : ℕ) (xs : List Parts) (x : Parts) → d ≡ length xs + suc k → weigh_parts d (xs ++ x ∷ []) ≡ weigh_parts d xs + (1 + x.count * cost k)
parts_push zero k [] x e = absurd (omega (arith, e))
parts_push (suc d) k [] x e = let same : d ≡ k = omega (arith, e) in ap (λ (j : ℕ). (1 + x.count * cost j) + 0) same ∙ omega arith
parts_push zero k (y ∷ xs) x e = absurd (omega (arith, e))
parts_push (suc d) k (y ∷ xs) x e = let h = parts_push d k xs x (omega (arith, e)) in omega (arith, h)

parts_seen : (o : Option Form) (shape : Shape) → SeesShape (Some shape) o → parts_found o ≡ numbers_of shape.parts
parts_seen None shape sees = absurd sees
parts_seen (Some form) shape sees = sees.parts

-- the parts of another node are searched
pub looked : (nodes : List Entry) (n d : ℕ) (xs : List Parts) (node : ℕ) (shape : Shape) → length xs < d → (node == n) ≡ false → SeesShape (Some shape) (form_at node nodes)
    → seek nodes n d (xs ++ shape.parts ∷ []) ≡ (seek nodes n d xs || holds (d - length xs) nodes n node)
looked nodes n d xs node shape h other sees =
    let k = d - length xs - 1 in
    let here : d - length xs ≡ suc k = omega (arith, h) in
    seek_push nodes n d k xs shape.parts (omega (arith, h))
    ∙ ap (λ (ns : List ℕ). seek nodes n d xs || list_any (holds k nodes n) ns) (sym (parts_seen (form_at node nodes) shape sees))
    ∙ ap (λ (b : Bool). seek nodes n d xs || (b || list_any (holds k nodes n) (parts_found (form_at node nodes)))) (sym other)
    ∙ ap (λ (j : ℕ). seek nodes n d xs || holds j nodes n node) (sym here)

-- the weight of what is put on the search
pub looked_weight : (d : ℕ) (xs : List Parts) (x : Parts) → length xs < d → x.count < 256 → weigh_parts d (xs ++ x ∷ []) < weigh_parts d xs + cost (d - length xs)
looked_weight d xs x h small =
    let k = d - length xs - 1 in
    let here : d - length xs ≡ suc k = omega (arith, h) in
    let e = parts_push d k xs x (omega (arith, h)) in
    let c = ap cost here in
    omega (arith, e, c, fits_cost x.count k small)

-- one part fewer
pub parts_fall : (d : ℕ) (xs : List Parts) (x y : Parts) → length xs < d → x.count ≡ y.count + 1 → weigh_parts d (xs ++ y ∷ []) + cost (d - length xs - 1) ≡ weigh_parts d (xs ++ x ∷ [])
parts_fall d xs x y h c =
    let k = d - length xs - 1 in
    let e = parts_push d k xs x (omega (arith, h)) in
    let f = parts_push d k xs y (omega (arith, h)) in
    let m : x.count * cost k ≡ y.count * cost k + cost k = ap (λ (j : ℕ). j * cost k) c ∙ omega arith in
    omega (arith, e, f, m)

-- nothing is left of the last
pub parts_gone : (d : ℕ) (xs : List Parts) (x : Parts) → length xs < d → weigh_parts d xs < weigh_parts d (xs ++ x ∷ [])
parts_gone d xs x h = let k = d - length xs - 1 in let e = parts_push d k xs x (omega (arith, h)) in omega (arith, e)

-- the last has no part left
pub sought_none : (nodes : List Entry) (n d : ℕ) (xs : List Parts) (x : Parts) → length xs < d → x.count ≡ 0 → seek nodes n d xs ≡ seek nodes n d (xs ++ x ∷ [])
sought_none nodes n d xs x h c =
    let k = d - length xs - 1 in
    or_false (seek nodes n d xs)
    ∙ ap (λ (j : ℕ). seek nodes n d xs || list_any (holds k nodes n) (run_from j x.next.number.0)) (sym c)
    ∙ sym (seek_push nodes n d k xs x (omega (arith, h)))
  where
    or_false : (b : Bool) → b ≡ (b || false)
    or_false true = refl
    or_false false = refl

or_cons : (a b c : Bool) → ((a || c) || b) ≡ (a || (b || c))
or_cons true b c = refl
or_cons false true true = refl
or_cons false true false = refl
or_cons false false true = refl
or_cons false false false = refl

-- the next part, and the others
pub sought_next : (nodes : List Entry) (n d : ℕ) (xs : List Parts) (x y : Parts) → length xs < d → x.count ≡ y.count + 1 → y.next.number.0 ≡ next_number x.next.number.0
    → (seek nodes n d (xs ++ y ∷ []) || holds (d - length xs - 1) nodes n x.next.number.0) ≡ seek nodes n d (xs ++ x ∷ [])
sought_next nodes n d xs x y h c m =
    let k = d - length xs - 1 in
    let up : suc y.count ≡ x.count = omega (arith, c) in
    ap (λ (b : Bool). b || holds k nodes n x.next.number.0) (seek_push nodes n d k xs y (omega (arith, h)))
    ∙ or_cons (seek nodes n d xs) (holds k nodes n x.next.number.0) (list_any (holds k nodes n) (numbers_of y))
    ∙ ap (λ (j : ℕ). seek nodes n d xs || (holds k nodes n x.next.number.0 || list_any (holds k nodes n) (run_from y.count j))) m
    ∙ ap (λ (j : ℕ). seek nodes n d xs || list_any (holds k nodes n) (run_from j x.next.number.0)) up
    ∙ sym (seek_push nodes n d k xs x (omega (arith, h)))

or_true : (a b : Bool) → b ≡ true → (a || b) ≡ true
or_true true b h = refl
or_true false b h = h

-- this is the node
pub held_here : (nodes : List Entry) (d : ℕ) (xs : List Parts) (n node : ℕ) → length xs < d → node ≡ n → holds (d - length xs) nodes n node ≡ true
held_here nodes d xs n node h same =
    let k = d - length xs - 1 in
    let here : d - length xs ≡ suc k = omega (arith, h) in
    let test : (node == n) ≡ true = grind (arith, nat_tests, same) in
    ap (λ (j : ℕ). holds j nodes n node) here ∙ ap (λ (b : Bool). b || list_any (holds k nodes n) (parts_found (form_at node nodes))) test

-- the next part holds the node
pub sought_here : (nodes : List Entry) (n d : ℕ) (xs : List Parts) (x y : Parts) → length xs < d → x.count ≡ y.count + 1 → y.next.number.0 ≡ next_number x.next.number.0
    → holds (d - length xs - 1) nodes n x.next.number.0 ≡ true → seek nodes n d (xs ++ x ∷ []) ≡ true
sought_here nodes n d xs x y h c m t = sym (sought_next nodes n d xs x y h c m) ∙ or_true _ _ t
