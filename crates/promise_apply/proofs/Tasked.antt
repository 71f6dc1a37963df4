-- The tasks of sets, as commands build in them.
use Rattle.std.proofs.Common.{◌≡◌, ◌∙◌, ℕ, List, [], ◌∷◌, Option, None, Some, Bool, true, false, refl, sym, ap, subst, length, arith, cond}
use Rattle.std.specs.Prelude.{nat_eq}
use Rattle.std.proofs.lemmas.Bool.{false≢true}
use Rattle.std.proofs.lemmas.Bool.Decides.{nat_tests}
use Rattle.kj_model.specs.Nodes.{Form, Ready, Cell}
use Rattle.kj_model.specs.Outcomes.{void}
use Rattle.kj_model.specs.World.{World, State, Held, Promise, CellOf, AskCell, HubOf, Group, Canceler, RequestOf, held_at}
use Rattle.kj_model.specs.Changes.{named, silent, unnamed}
use Rattle.kj_model.specs.Effects.{node_named, over_built, leaf_built, empty_built_in, cleared, dropped_held}
use Rattle.kj_model.specs.Free.{Guard}
use Rattle.kj_model.specs.Places.{built}
use Rattle.kj_model.specs.Uses.{is_group}
use Rattle.kj_model.proofs.Counts.{held_without}
use Rattle.promise_nodes.specs.Shown.{link_number}
use Rattle.promise_nodes.specs.Members.{lists_in, members_of}
use Rattle.promise_nodes.proofs.Listed.{held_named}
use Rattle.promise_nodes.proofs.Same.{built_names, names_lists, unnamed_lists}
use Rattle.promise_apply.specs.declared.sets.Tasks.{Tasks}
use Rattle.promise_apply.specs.Sets.{IsTasks, SeesTasks}
use Rattle.promise_apply.proofs.Live.{built_held}

-- ---- what is seen of a set

-- a set with these tasks, as many as were seen, and this cell
pub record HasTasks (t : Tasks) (o : Option Held) : Type 0 where
  pub error : Option ℕ
  pub members : List ℕ
  pub is : o ≡ Some (Group error members (link_number t.empty))
  pub counted : length members ≡ t.count

pub tasks_of : (t : Tasks) (o : Option Held) → IsTasks t o → HasTasks t o
tasks_of t (Some (Group error members empty)) h = record {
  error = error;
  members = members;
  is = ap (λ (e : Option ℕ). Some (Group error members e)) h.1;
  counted = h.0;
}
tasks_of t None h = absurd h
tasks_of t (Some (Promise root)) h = absurd h
tasks_of t (Some (CellOf cell)) h = absurd h
tasks_of t (Some (AskCell cell is_taken)) h = absurd h
tasks_of t (Some (HubOf hub)) h = absurd h
tasks_of t (Some (Canceler wraps)) h = absurd h
tasks_of t (Some (RequestOf request)) h = absurd h

-- the tasks of what is a set are seen
pub tasks_there : (o : Option Tasks) (held : Option Held) → SeesTasks o held → is_group held ≡ true → o ≡ None → ⊥
tasks_there None held sees is e = false≢true (sym sees ∙ is)
tasks_there (Some t) held sees is e = some_none t e
  where
    some_none : (t : Tasks) → ◌≡◌ {A = Option Tasks} (Some t) None → ⊥
    some_none t e = cc

same_is : (a b : ℕ) → nat_eq a b ≡ true → a ≡ b
same_is a b e = grind (arith, nat_tests)

apart_case : (b : Bool) (group source root : ℕ) (t : Tasks) (w : World) → nat_eq source group ≡ b → IsTasks t (held_at group w.names) → held_at source w.names ≡ Some (Promise root) → b ≡ false
apart_case false group source root t w e tasks held = refl
apart_case true group source root t w e tasks held =
    absurd (subst (IsTasks t) (ap (λ (n : ℕ). held_at n w.names) (sym (same_is source group e)) ∙ held) tasks)

-- a set is no promise
pub apart_source : (group source root : ℕ) (t : Tasks) (w : World) → IsTasks t (held_at group w.names) → held_at source w.names ≡ Some (Promise root) → nat_eq source group ≡ false
apart_source group source root t w tasks held = apart_case (nat_eq source group) group source root t w refl tasks held

new_case : (b : Bool) (group name : ℕ) (t : Tasks) (w : World) → nat_eq name group ≡ b → IsTasks t (held_at group w.names) → held_at name w.names ≡ None → b ≡ false
new_case false group name t w e tasks none = refl
new_case true group name t w e tasks none =
    absurd (subst (IsTasks t) (ap (λ (n : ℕ). held_at n w.names) (sym (same_is name group e)) ∙ none) tasks)

-- nor a name that isn't there
pub apart_new : (group name : ℕ) (t : Tasks) (w : World) → IsTasks t (held_at group w.names) → held_at name w.names ≡ None → nat_eq name group ≡ false
apart_new group name t w tasks none = new_case (nat_eq name group) group name t w refl tasks none

-- ---- what stays

-- what another name holds, when a node was built over the tree of a source
pub over_held : (group source : ℕ) (form : ℕ → Form) (w : World) → nat_eq source group ≡ false → held_at group (over_built form source w).names ≡ held_at group w.names
over_held group source form w apart =
    ap (held_at group) (built_held (Some (node_named source w)) (form (node_named source w)) (unnamed source w)) ∙ held_without group source w.names apart

-- no set loses a task then
pub over_lists : (source : ℕ) (form : ℕ → Form) (w : World) → members_of (held_at source w.names) ≡ [] → (list : ℕ) → lists_in (over_built form source w) list ≡ lists_in w list
over_lists source form w none list =
    names_lists (unnamed source w) (over_built form source w) (built_names (Some (node_named source w)) (form (node_named source w)) (unnamed source w)) list ∙ unnamed_lists source w none list

-- the same when a leaf was built
pub leaf_held : (group name : ℕ) (form : Form) (w : World) → nat_eq name group ≡ false → held_at group (leaf_built name form w).names ≡ held_at group w.names
leaf_held group name form w apart =
    held_named group name (Promise w.next) (built None form w)
    ∙ ap (λ (b : Bool). cond b (Some (Promise w.next)) (held_at group (built None form w).names)) apart
    ∙ ap (held_at group) (built_held None form w)

-- ---- the promise that a set is empty

no_length : (n : ℕ) (ns : List ℕ) → length (n ∷ ns) ≡ 0 → ⊥
no_length n ns e = omega (arith, e)

empty_case : (name group : ℕ) (error empty : Option ℕ) (members : List ℕ) (w : World) → length members ≡ 0 → leaf_built name (Ready void) w ≡ empty_built_in name group (Some (Group error members empty)) w
empty_case name group error empty [] w none = refl
empty_case name group error empty (task ∷ tasks) w none = absurd (no_length task tasks none)

-- a set without tasks is empty at once
pub empty_at_once : (name group : ℕ) (t : Tasks) (o : Option Held) (w : World) → HasTasks t o → t.count ≡ 0 → leaf_built name (Ready void) w ≡ empty_built_in name group o w
empty_at_once name group t o w has none =
    empty_case name group has.error (link_number t.empty) has.members w (has.counted ∙ none)
    ∙ ap (λ (h : Option Held). empty_built_in name group h w) (sym has.is)

waits_case : (name group : ℕ) (error empty : Option ℕ) (members : List ℕ) (w : World) → (length members ≡ 0 → ⊥)
    → named group (Group error members (Some w.next)) (leaf_built name (Cell None) w) ≡ empty_built_in name group (Some (Group error members empty)) w
waits_case name group error empty [] w some = absurd (some refl)
waits_case name group error empty (task ∷ tasks) w some = refl

-- one with tasks gets a cell
pub empty_later : (name group : ℕ) (t : Tasks) (o : Option Held) (w : World) (has : HasTasks t o) → (t.count ≡ 0 → ⊥)
    → named group (Group has.error has.members (Some w.next)) (leaf_built name (Cell None) w) ≡ empty_built_in name group o w
empty_later name group t o w has some =
    waits_case name group has.error (link_number t.empty) has.members w (λ e. some (sym has.counted ∙ e))
    ∙ ap (λ (h : Option Held). empty_built_in name group h w) (sym has.is)

-- ---- a set goes

-- its tasks go, and then its name
pub set_drops : (guard : Guard) (name : ℕ) (t : Tasks) (o : Option Held) (s : State) → IsTasks t o → dropped_held guard name o s ≡ silent (unnamed name) (cleared guard name s)
set_drops guard name t o s tasks = ap (λ (h : Option Held). dropped_held guard name h s) (tasks_of t o tasks).is
