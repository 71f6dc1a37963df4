-- A set of a tree has another number of tasks, and another cell waits until it is empty.
use Rattle.std.proofs.Common.{◌≡◌, ℕ, cond, Bool, true, false, Option, None, Some, refl, sym, ap, ◌∙◌, subst}
use Rattle.std.specs.Prelude.{nat_eq}
use Rattle.kj_base.specs.declared.nodes.Link.{Link}
use Rattle.kj_base.specs.declared.numbers.Name.{Name}
use Rattle.promise_names.specs.Held.{root_of}
use Rattle.promise_names.specs.declared.names.Held.{Held}
use Rattle.name_table.specs.Entries.{held_in, held_regrouped, entries_regrouped}
use Rattle.name_table.proofs.Names.{entry_as}
use Rattle.name_table.proofs.Ranks.{same_is}
use Rattle.name_table.proofs.Regrouped.{root_still}
use Rattle.name_tree.specs.declared.tree.Tree.{Tree}
use Rattle.name_tree.specs.Trees.{value_at, IsSplit, IsSetAt}
use Rattle.name_tree.specs.Listed.{listed, root_in, held_told, Knows}
use Rattle.name_tree.proofs.Lists.{put_is}
use Rattle.name_tree.proofs.Rises.{held_listed, rising_listed}
use Rattle.name_tree.proofs.Same.{same_rising}

-- what isn't there is told nothing
none_step : (key : ℕ) (t : Tree Held) (n : ℕ) (b : Bool) → nat_eq key n ≡ b → value_at key t ≡ None
    → value_at n t ≡ cond b None (value_at n t)
none_step key t n true u none = subst (λ (m : ℕ). value_at m t ≡ None) (same_is key n u) none
none_step key t n false u none = refl

pub none_told : (key : ℕ) (t : Tree Held) → value_at key t ≡ None → IsSetAt key None t t
none_told key t none n = none_step key t n (nat_eq key n) refl none

-- ---- the list of the tree

told_case : (at step : ℕ) (group : Name) (tasks : ℕ) (empty : Option Link) (t new : Tree Held)
    (o : Option Held) → value_at group.0 t ≡ o → IsSplit at step t → IsSplit at step new
    → IsSetAt group.0 (held_told tasks empty o) t new
    → listed new ≡ entries_regrouped o group tasks empty (listed t)
told_case at step group tasks empty t new None is split after set =
    same_rising (listed new) (listed t) (rising_listed new at step after) (rising_listed t at step split)
    (λ n. held_listed new at step after n ∙ set n ∙ sym (none_told group.0 t is n)
    ∙ sym (held_listed t at step split n))
told_case at step group tasks empty t new (Some held) is split after set =
    put_is at step (entry_as group (held_regrouped tasks empty held)) t new split after set

pub told_is : (at step : ℕ) (group : Name) (tasks : ℕ) (empty : Option Link) (t new : Tree Held)
    → IsSplit at step t → IsSplit at step new
    → IsSetAt group.0 (held_told tasks empty (value_at group.0 t)) t new
    → listed new ≡ entries_regrouped (held_in group.0 (listed t)) group tasks empty (listed t)
told_is at step group tasks empty t new split after set =
    told_case at step group tasks empty t new (value_at group.0 t) refl split after set
    ∙ ap (λ (o : Option Held). entries_regrouped o group tasks empty (listed t))
    (sym (held_listed t at step split group.0))

-- ---- each root has its name

root_told : (tasks : ℕ) (empty : Option Link) (o : Option Held)
    → root_of (held_told tasks empty o) ≡ root_of o
root_told tasks empty None = refl
root_told tasks empty (Some held) = root_still tasks empty held

root_step : (key tasks : ℕ) (empty : Option Link) (t new : Tree Held) (n : ℕ) (b : Bool)
    → nat_eq key n ≡ b → IsSetAt key (held_told tasks empty (value_at key t)) t new
    → root_in n new ≡ root_in n t
root_step key tasks empty t new n true u set =
    ap root_of (set n ∙ rw u refl) ∙ root_told tasks empty (value_at key t)
    ∙ ap (λ (m : ℕ). root_in m t) (same_is key n u)
root_step key tasks empty t new n false u set = ap root_of (set n ∙ rw u refl)

pub knows_told : (key tasks : ℕ) (empty : Option Link) (t new : Tree Held) (roots : Tree Name)
    → IsSetAt key (held_told tasks empty (value_at key t)) t new → Knows t roots → Knows new roots
knows_told key tasks empty t new roots set known n root is =
    known n root (sym (root_step key tasks empty t new n (nat_eq key n) refl set) ∙ is)
