-- The names of roots, where a name comes or goes.
use Rattle.std.specs.Prelude.{◌≡◌, ℕ, Option, None, Some}
use Rattle.kj_base.specs.declared.numbers.Name.{Name}
use Rattle.name_tree.specs.declared.tree.Tree.{Tree}
use Rattle.name_tree.specs.Trees.{value_at}

-- the roots of other names are known as they were
abbrev pub KeepsOthers : ℕ → Tree Name → Tree Name → Type 0
KeepsOthers name old new = (root other : ℕ) → (other ≡ name → ⊥) → value_at root old ≡ Some (record { 0 = other }) → value_at root new ≡ Some (record { 0 = other })

-- all roots are known as they were
abbrev pub KeepsAll : Tree Name → Tree Name → Type 0
KeepsAll old new = (root other : ℕ) → value_at root old ≡ Some (record { 0 = other }) → value_at root new ≡ Some (record { 0 = other })

-- this root, where there is one, has this name
abbrev pub HasName : ℕ → Option ℕ → Tree Name → Type 0
HasName name None roots = Unit {0}
HasName name (Some root) roots = value_at root roots ≡ Some (record { 0 = name })

-- this root, where there is one, has no name
abbrev pub HasNoName : Option ℕ → Tree Name → Type 0
HasNoName None roots = Unit {0}
HasNoName (Some root) roots = value_at root roots ≡ None
