-- What names that pass tell of a world.
use Rattle.std.proofs.Common.{◌≡◌, ℕ, List, [], ◌∷◌, Option, None, Some, Bool, true, false, refl, sym, ap, ◌∙◌, subst}
use Rattle.std.specs.Prelude.{nat_eq, nat_lt, is_some}
use Rattle.std.proofs.lemmas.Bool.{false≢true}
use Rattle.kj_model.specs.World.{World, Named, Held, Promise, CellOf, HubOf, held_at}
use Rattle.kj_model.specs.Nodes.{Form, Side, Waits}
use Rattle.kj_model.specs.Changes.{unnamed, without_name, with_new}
use Rattle.kj_model.specs.Effects.{node_of, node_named, over_built, sides_built, leaf_built}
use Rattle.kj_model.specs.Uses.{Role, IsNew, Use, use_as, is_name, is_promise, is_cell, is_hub, has_role, is_wrong, is_taken, used_before, is_new}
use Rattle.promise_names.specs.Held.{IsListless}
use Rattle.promise_apply.specs.Applying.{ArePassed}
use Rattle.promise_apply.proofs.Uses.{name_held}
use Rattle.promise_apply.proofs.Counted.{passed_first, or_parts, not_false}
use Rattle.promise_apply.proofs.Live.{built_held}

none_case : (o : Option Held) → is_some o ≡ false → o ≡ None
none_case None h = refl
none_case (Some x) h = absurd (false≢true (sym h))

-- a new name isn't there
pub new_absent : (name : ℕ) (rest : List Use) (w : World) → ArePassed (use_as IsNew name ∷ rest) w → held_at name w.names ≡ None
new_absent name rest w p =
    let first = passed_first (is_taken w) [] (use_as IsNew name) rest p.taken in
    none_case (held_at name w.names) (sym (name_held name w.names) ∙ (or_parts (is_name name w.names) false first.0).0)

-- nor is the second one, which is another
pub second_absent : (name other : ℕ) (w : World) → ArePassed (use_as IsNew name ∷ use_as IsNew other ∷ []) w → held_at other w.names ≡ None
second_absent name other w p =
    let first = passed_first (is_taken w) [] (use_as IsNew name) (use_as IsNew other ∷ []) p.taken in
    let second = passed_first (is_taken w) (use_as IsNew name ∷ []) (use_as IsNew other) [] first.1 in
    none_case (held_at other w.names) (sym (name_held other w.names) ∙ (or_parts (is_name other w.names) (used_before is_new other (use_as IsNew name ∷ [])) second.0).0)

-- the first name is what the command wants of it
pub first_role : (role : Role) (name : ℕ) (rest : List Use) (w : World) → ArePassed (use_as role name ∷ rest) w → has_role role (held_at name w.names) ≡ true
first_role role name rest w p = not_false (has_role role (held_at name w.names)) (passed_first (is_wrong w) [] (use_as role name) rest p.wrong).0

-- and the second one
pub second_role : (role : Role) (name : ℕ) (u : Use) (rest : List Use) (w : World) → ArePassed (u ∷ use_as role name ∷ rest) w → has_role role (held_at name w.names) ≡ true
second_role role name u rest w p =
    let first = passed_first (is_wrong w) [] u (use_as role name ∷ rest) p.wrong in
    not_false (has_role role (held_at name w.names)) (passed_first (is_wrong w) (u ∷ []) (use_as role name) rest first.1).0

-- a promise has a root
pub promise_root : (o : Option Held) (r : Option ℕ) → is_promise o ≡ true → ((root : ℕ) → o ≡ Some (Promise root) → r ≡ Some root) → r ≡ Some (node_of o)
promise_root (Some (Promise root)) r h law = law root refl
promise_root None r h law = absurd (false≢true h)
promise_root (Some _) r h law = absurd (false≢true h)

-- and is that root's
pub promise_held : (o : Option Held) (r : Option ℕ) (t : ℕ) → is_promise o ≡ true → ((root : ℕ) → o ≡ Some (Promise root) → r ≡ Some root) → r ≡ Some t → o ≡ Some (Promise t)
promise_held (Some (Promise root)) r t h law e = ap (λ (n : ℕ). Some (Promise n)) (same root t (sym (law root refl) ∙ e))
  where
    same : (a b : ℕ) → ◌≡◌ {A = Option ℕ} (Some a) (Some b) → a ≡ b
    same a b e = cc
promise_held None r t h law e = absurd (false≢true h)
promise_held (Some _) r t h law e = absurd (false≢true h)

-- a fulfiller has a cell
pub cell_held : (o : Option Held) (r : Option ℕ) (t : ℕ) → is_cell o ≡ true → ((n : ℕ) → o ≡ Some (CellOf n) → r ≡ Some n) → r ≡ Some t → o ≡ Some (CellOf t)
cell_held (Some (CellOf n)) r t h law e = ap (λ (m : ℕ). Some (CellOf m)) (same n t (sym (law n refl) ∙ e))
  where
    same : (a b : ℕ) → ◌≡◌ {A = Option ℕ} (Some a) (Some b) → a ≡ b
    same a b e = cc
cell_held None r t h law e = absurd (false≢true h)
cell_held (Some _) r t h law e = absurd (false≢true h)

-- a hub's name has a hub
pub hub_held : (o : Option Held) (r : Option ℕ) (t : ℕ) → is_hub o ≡ true → ((n : ℕ) → o ≡ Some (HubOf n) → r ≡ Some n) → r ≡ Some t → o ≡ Some (HubOf t)
hub_held (Some (HubOf n)) r t h law e = ap (λ (m : ℕ). Some (HubOf m)) (same n t (sym (law n refl) ∙ e))
  where
    same : (a b : ℕ) → ◌≡◌ {A = Option ℕ} (Some a) (Some b) → a ≡ b
    same a b e = cc
hub_held None r t h law e = absurd (false≢true h)
hub_held (Some _) r t h law e = absurd (false≢true h)

none_some : (n : ℕ) → ◌≡◌ {A = Option ℕ} None (Some n) → ⊥
none_some n e = cc

-- so none of them is missing
pub promise_there : (o : Option Held) → is_promise o ≡ true → ((root : ℕ) → o ≡ Some (Promise root) → ◌≡◌ {A = Option ℕ} None (Some root)) → ⊥
promise_there (Some (Promise root)) h law = none_some root (law root refl)
promise_there None h law = absurd (false≢true h)
promise_there (Some _) h law = absurd (false≢true h)

pub cell_there : (o : Option Held) → is_cell o ≡ true → ((n : ℕ) → o ≡ Some (CellOf n) → ◌≡◌ {A = Option ℕ} None (Some n)) → ⊥
cell_there (Some (CellOf n)) h law = none_some n (law n refl)
cell_there None h law = absurd (false≢true h)
cell_there (Some _) h law = absurd (false≢true h)

pub hub_there : (o : Option Held) → is_hub o ≡ true → ((n : ℕ) → o ≡ Some (HubOf n) → ◌≡◌ {A = Option ℕ} None (Some n)) → ⊥
hub_there (Some (HubOf n)) h law = none_some n (law n refl)
hub_there None h law = absurd (false≢true h)
hub_there (Some _) h law = absurd (false≢true h)

without_case : (b c : Bool) (n m : ℕ) (y : Named) (ys : List Named) → nat_eq y.name m ≡ b → nat_eq y.name n ≡ c → (held_at n ys ≡ None → held_at n (without_name m ys) ≡ None) → held_at n (y ∷ ys) ≡ None → held_at n (without_name m (y ∷ ys)) ≡ None
without_case true true n m y ys h k ih none = absurd (some_none y.held (rw k at none))
  where
    some_none : (x : Held) → ◌≡◌ {A = Option Held} (Some x) None → ⊥
    some_none x e = cc
without_case true false n m y ys h k ih none = rw h (ih (rw k at none))
without_case false true n m y ys h k ih none = absurd (some_none y.held (rw k at none))
  where
    some_none : (x : Held) → ◌≡◌ {A = Option Held} (Some x) None → ⊥
    some_none x e = cc
without_case false false n m y ys h k ih none = rw (h, k) (ih (rw k at none))

absent_without : (n m : ℕ) (ys : List Named) → held_at n ys ≡ None → held_at n (without_name m ys) ≡ None
absent_without n m [] none = refl
absent_without n m (y ∷ ys) none = without_case (nat_eq y.name m) (nat_eq y.name n) n m y ys refl refl (absent_without n m ys) none

listless_none : (o : Option Held) → o ≡ None → IsListless o
listless_none o h = subst IsListless (sym h) tt

-- a name that isn't there has no list
pub listless : (name : ℕ) (w : World) → held_at name w.names ≡ None → IsListless (held_at name w.names)
listless name w none = listless_none (held_at name w.names) none

-- nor when another name went
pub unnamed_listless : (name source : ℕ) (w : World) → held_at name w.names ≡ None → IsListless (held_at name (unnamed source w).names)
unnamed_listless name source w none = listless_none (held_at name (without_name source w.names)) (absent_without name source w.names none)

over_absent : (name source : ℕ) (form : ℕ → Form) (w : World) → held_at name w.names ≡ None → held_at name (over_built form source w).names ≡ None
over_absent name source form w none =
    ap (held_at name) (built_held (Some (node_named source w)) (form (node_named source w)) (unnamed source w)) ∙ absent_without name source w.names none

-- or when a node was built over its tree
pub over_listless : (name source : ℕ) (form : ℕ → Form) (w : World) → held_at name w.names ≡ None → IsListless (held_at name (over_built form source w).names)
over_listless name source form w none = listless_none (held_at name (over_built form source w).names) (over_absent name source form w none)

sides_absent : (name : ℕ) (sources : List ℕ) (w : World) → held_at name w.names ≡ None → held_at name (sides_built sources w).names ≡ None
sides_absent name [] w none = none
sides_absent name (s ∷ ss) w none = sides_absent name ss (over_built (λ t. Side (Waits t)) s w) (over_absent name s (λ t. Side (Waits t)) w none)

-- or Sides
pub sides_listless : (name : ℕ) (sources : List ℕ) (w : World) → held_at name w.names ≡ None → IsListless (held_at name (sides_built sources w).names)
sides_listless name sources w none = listless_none (held_at name (sides_built sources w).names) (sides_absent name sources w none)

one_held : (b : Bool) (n : ℕ) (x : Named) (ys : List Named) → nat_eq x.name n ≡ b → IsListless (Some x.held) → held_at n ys ≡ None → IsListless (held_at n (x ∷ ys))
one_held true n x ys h l none = rw h l
one_held false n x ys h l none = rw h (listless_none (held_at n ys) none)

rest_none : (c : Bool) (n : ℕ) (y : Named) (ys : List Named) → nat_eq y.name n ≡ c → held_at n (y ∷ ys) ≡ None → (c ≡ false) × (held_at n ys ≡ None)
rest_none true n y ys h none = absurd (some_none y.held (rw h at none))
  where
    some_none : (x : Held) → ◌≡◌ {A = Option Held} (Some x) None → ⊥
    some_none x e = cc
rest_none false n y ys h none = (refl, rw h at none)

put_case : (b : Bool) (n : ℕ) (x y : Named) (ys : List Named) → nat_lt x.name y.name ≡ b → IsListless (Some x.held) → (held_at n ys ≡ None → IsListless (held_at n (with_new x ys))) → held_at n (y ∷ ys) ≡ None → IsListless (held_at n (with_new x (y ∷ ys)))
put_case true n x y ys h l ih none = rw h (one_held (nat_eq x.name n) n x (y ∷ ys) refl l none)
put_case false n x y ys h l ih none =
    let p = rest_none (nat_eq y.name n) n y ys refl none in
    rw (h, p.0) (ih p.1)

put_listless : (n : ℕ) (x : Named) (ys : List Named) → IsListless (Some x.held) → held_at n ys ≡ None → IsListless (held_at n (with_new x ys))
put_listless n x [] l none = one_held (nat_eq x.name n) n x [] refl l none
put_listless n x (y ∷ ys) l none = put_case (nat_lt x.name y.name) n x y ys refl l (put_listless n x ys l) none

-- or when a leaf was built
pub leaf_listless : (n name : ℕ) (form : Form) (w : World) → held_at n w.names ≡ None → IsListless (held_at n (leaf_built name form w).names)
leaf_listless n name form w none = put_listless n (record { name = name; held = Promise w.next }) (without_name name w.names) tt (absent_without n name w.names none)
