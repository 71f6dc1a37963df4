-- A promise has another tree, and each root still has its name.
use Rattle.std.proofs.Common.{◌≡◌, ℕ, Bool, true, false, Option, None, Some, refl, sym, ap, ◌∙◌, subst, arith}
use Rattle.std.specs.Prelude.{nat_eq}
use Rattle.std.proofs.lemmas.Bool.Decides.{nat_tests}
use Rattle.kj_base.specs.declared.nodes.Link.{Link}
use Rattle.kj_base.specs.declared.numbers.Name.{Name}
use Rattle.promise_names.specs.Held.{AreApart, root_of}
use Rattle.promise_names.specs.declared.names.Held.{Held}
use Rattle.promise_names.specs.declared.names.Held.TheVariants.{Promise, CellOf, AskCell, HubOf, Group, Canceler, RequestOf}
use Rattle.name_table.proofs.Alone.{unequal}
use Rattle.name_table.proofs.Ranks.{same_is}
use Rattle.name_tree.specs.declared.tree.Tree.{Tree}
use Rattle.name_tree.specs.Trees.{value_at, IsSetAt}
use Rattle.name_tree.specs.Listed.{root_in, held_after, Knows, IsRenamed}
use Rattle.name_tree.specs.Roots.{KeepsOthers, KeepsAll, HasName}

equal : (a b : ℕ) → a ≡ b → nat_eq a b ≡ true
equal a b same = grind (arith, nat_tests)

number_is : (a b : ℕ) → ◌≡◌ {A = Option ℕ} (Some a) (Some b) → a ≡ b
number_is a b is = cc

-- ---- what a name holds, where a tree was replaced

given : (old : ℕ) (new : Link) (o : Option Held) → root_of o ≡ Some old → Some (Promise new) ≡ held_after old new o
given old new None is = absurd cc
given old new (Some (Promise root)) is = rw (equal root.number.0 old (number_is root.number.0 old is)) refl
given old new (Some (CellOf cell)) is = absurd cc
given old new (Some (AskCell cell taken)) is = absurd cc
given old new (Some (HubOf hub)) is = absurd cc
given old new (Some (Group error tasks empty)) is = absurd cc
given old new (Some Canceler) is = absurd cc
given old new (Some (RequestOf request)) is = absurd cc

stays_promise : (old : ℕ) (new root : Link) (b : Bool) → nat_eq root.number.0 old ≡ b → (root.number.0 ≡ old → ⊥) → Some (Promise root) ≡ held_after old new (Some (Promise root))
stays_promise old new root true t other = absurd (other (same_is root.number.0 old t))
stays_promise old new root false t other = rw t refl

pub stays : (old : ℕ) (new : Link) (o : Option Held) → (root_of o ≡ Some old → ⊥) → o ≡ held_after old new o
stays old new None other = refl
stays old new (Some (Promise root)) other = stays_promise old new root (nat_eq root.number.0 old) refl (λ same. other (ap (λ (n : ℕ). Some n) same))
stays old new (Some (CellOf cell)) other = refl
stays old new (Some (AskCell cell taken)) other = refl
stays old new (Some (HubOf hub)) other = refl
stays old new (Some (Group error tasks empty)) other = refl
stays old new (Some Canceler) other = refl
stays old new (Some (RequestOf request)) other = refl

given_step : (name old : ℕ) (new : Link) (t after : Tree Held) (n : ℕ) (b : Bool) → nat_eq name n ≡ b → AreApart (λ m. root_in m t) → root_in name t ≡ Some old → IsSetAt name (Some (Promise new)) t after
    → value_at n after ≡ held_after old new (value_at n t)
given_step name old new t after n true u apart has set =
    (set n ∙ rw u refl) ∙ given old new (value_at n t) (subst (λ (m : ℕ). root_in m t ≡ Some old) (same_is name n u) has)
given_step name old new t after n false u apart has set =
    (set n ∙ rw u refl) ∙ stays old new (value_at n t) (λ is. unequal name n u (apart name n old has is))

pub given_renames : (name old : ℕ) (new : Link) (t after : Tree Held) → AreApart (λ m. root_in m t) → root_in name t ≡ Some old → IsSetAt name (Some (Promise new)) t after → IsRenamed old new t after
given_renames name old new t after apart has set n = given_step name old new t after n (nat_eq name n) refl apart has set

-- ---- each root has its name

knows_step : (name : ℕ) (held : Option Held) (t after : Tree Held) (roots mid learnt : Tree Name) (n root : ℕ) (b : Bool) → nat_eq name n ≡ b
    → IsSetAt name held t after → KeepsOthers name roots mid → KeepsAll mid learnt → HasName name (root_of held) learnt → Knows t roots
    → root_in n after ≡ Some root → value_at root learnt ≡ Some (record { 0 = n })
knows_step name held t after roots mid learnt n root true u set others all has known is =
    let root_is : root_of held ≡ Some root = sym (ap root_of (set n ∙ rw u refl)) ∙ is in
    let named : HasName name (Some root) learnt = subst (λ (r : Option ℕ). HasName name r learnt) root_is has in
    subst (λ (m : ℕ). value_at root learnt ≡ Some (record { 0 = m })) (same_is name n u) named
knows_step name held t after roots mid learnt n root false u set others all has known is =
    let before : root_in n t ≡ Some root = sym (ap root_of (set n ∙ rw u refl)) ∙ is in
    all root n (others root n (λ same. unequal name n u (sym same)) (known n root before))

pub knows_still : (name : ℕ) (held : Option Held) (t after : Tree Held) (roots mid learnt : Tree Name)
    → IsSetAt name held t after → KeepsOthers name roots mid → KeepsAll mid learnt → HasName name (root_of held) learnt → Knows t roots → Knows after learnt
knows_still name held t after roots mid learnt set others all has known n root is =
    knows_step name held t after roots mid learnt n root (nat_eq name n) refl set others all has known is

-- where a root has no name, its tree is replaced nowhere
pub none_renames : (old : ℕ) (new : Link) (t : Tree Held) → ((n : ℕ) → root_in n t ≡ Some old → ⊥) → IsRenamed old new t t
none_renames old new t none n = stays old new (value_at n t) (none n)
