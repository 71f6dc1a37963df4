-- Members of lists of numbers, and of trees.
use Rattle.std.proofs.Common.{zero, suc, ◌≡◌, ◌⊎◌, inl, inr, ℕ, List, [], ◌∷◌, ◌++◌, Bool, true, false, Option, None, Some, arith, refl, sym, ap, ◌∙◌, ◌||◌}
use Rattle.std.specs.Prelude.{flat_map}
use Rattle.std.proofs.lemmas.Bool.{false≢true}
use Rattle.std.proofs.lemmas.Bool.Decides.{nat_tests}
use Rattle.kj_model.specs.Nodes.{Entry, Form, form_at, is_in, parts_of}
use Rattle.kj_model.specs.Trees.{live_parts, some_parts, over_parts, tree_numbers}
use Rattle.kj_model.proofs.Freed.{in_app}

-- each of the first list is in the second
abbrev pub Within : List ℕ → List ℕ → Type 0
Within xs ys = (m : ℕ) → is_in m xs ≡ true → is_in m ys ≡ true

either : (a b : Bool) → (a || b) ≡ true → (a ≡ true) ⊎ (b ≡ true)
either true b h = inl refl
either false b h = inr h

or_left : (a b : Bool) → a ≡ true → (a || b) ≡ true
or_left true b h = refl
or_left false b h = absurd (false≢true h)

or_right : (a b : Bool) → b ≡ true → (a || b) ≡ true
or_right true b h = refl
or_right false b h = h

pub in_either : (m : ℕ) (xs ys : List ℕ) → is_in m (xs ++ ys) ≡ true → (is_in m xs ≡ true) ⊎ (is_in m ys ≡ true)
in_either m xs ys h = either (is_in m xs) (is_in m ys) (sym (in_app m xs ys) ∙ h)

pub in_left : (m : ℕ) (xs ys : List ℕ) → is_in m xs ≡ true → is_in m (xs ++ ys) ≡ true
in_left m xs ys h = in_app m xs ys ∙ or_left (is_in m xs) (is_in m ys) h

pub in_right : (m : ℕ) (xs ys : List ℕ) → is_in m ys ≡ true → is_in m (xs ++ ys) ≡ true
in_right m xs ys h = in_app m xs ys ∙ or_right (is_in m xs) (is_in m ys) h

pub in_one : (m n : ℕ) → is_in m (n ∷ []) ≡ true → n ≡ m
in_one m n h = grind (arith, nat_tests)

pub in_self : (n : ℕ) (ns : List ℕ) → is_in n (n ∷ ns) ≡ true
in_self n ns = grind (arith, nat_tests)

pub in_none : (m : ℕ) → is_in m [] ≡ true → ⊥
in_none m h = false≢true h

-- a greater bound reads no fewer nodes
pub more_all : (k : ℕ) (nodes : List Entry) (ps : List ℕ) → ((n : ℕ) → Within (tree_numbers k nodes n) (tree_numbers (suc k) nodes n)) → Within (flat_map (tree_numbers k nodes) ps) (flat_map (tree_numbers (suc k) nodes) ps)
more_all k nodes [] more m h = h
more_all k nodes (p ∷ ps) more m h = elim (in_either m (tree_numbers k nodes p) (flat_map (tree_numbers k nodes) ps) h) [
  | inl a ↦ in_left m (tree_numbers (suc k) nodes p) (flat_map (tree_numbers (suc k) nodes) ps) (more p m a)
  | inr b ↦ in_right m (tree_numbers (suc k) nodes p) (flat_map (tree_numbers (suc k) nodes) ps) (more_all k nodes ps more m b)
]

more_over : (k : ℕ) (nodes : List Entry) (n : ℕ) (o : Option (List ℕ)) → ((p : ℕ) → Within (tree_numbers k nodes p) (tree_numbers (suc k) nodes p)) → Within (over_parts (tree_numbers k nodes) n o) (over_parts (tree_numbers (suc k) nodes) n o)
more_over k nodes n None more m h = h
more_over k nodes n (Some ps) more m h = elim (in_either m (flat_map (tree_numbers k nodes) ps) (n ∷ []) h) [
  | inl a ↦ in_left m (flat_map (tree_numbers (suc k) nodes) ps) (n ∷ []) (more_all k nodes ps more m a)
  | inr b ↦ in_right m (flat_map (tree_numbers (suc k) nodes) ps) (n ∷ []) b
]

pub tree_more : (k : ℕ) (nodes : List Entry) (n : ℕ) → Within (tree_numbers k nodes n) (tree_numbers (suc k) nodes n)
unfolding tree_numbers
tree_more zero nodes n m h = absurd (in_none m h)
tree_more (suc k) nodes n m h = more_over k nodes n (live_parts n nodes) (tree_more k nodes) m h

-- the tree of a live node: those of its parts, and the node
pub tree_of : (k : ℕ) (nodes : List Entry) (n : ℕ) (form : Form) → form_at n nodes ≡ Some form → tree_numbers (suc k) nodes n ≡ flat_map (tree_numbers k nodes) (parts_of form) ++ n ∷ []
unfolding tree_numbers
tree_of k nodes n form at = ap (λ o. over_parts (tree_numbers k nodes) n (some_parts o)) at
