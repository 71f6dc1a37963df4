-- The names of a tree.
use Rattle.std.specs.Prelude.{◌≡◌, ℕ, List, [], ◌++◌, Option, None, Some}
use Rattle.kj_base.specs.declared.nodes.Link.{Link}
use Rattle.kj_base.specs.declared.numbers.Name.{Name}
use Rattle.promise_names.specs.Held.{root_of}
use Rattle.promise_names.specs.declared.names.Held.{Held}
use Rattle.name_table.specs.declared.entries.Entry.{Entry}
use Rattle.name_table.specs.Entries.{with_entry, held_replaced, held_regrouped}
use Rattle.name_tree.specs.declared.tree.Tree.{Tree}
use Rattle.name_tree.specs.declared.tree.Tree.TheVariants.{Empty, Fork'}
use Rattle.name_tree.specs.Trees.{value_at}

-- the names with what they hold, by rising name
abbrev pub listed : Tree Held → List Entry
listed Empty = []
listed (Fork' p key value low high) = with_entry (record { name = record { 0 = key }; held = value }) (listed low ++ listed high)

-- the root that a name promises
abbrev pub root_in : ℕ → Tree Held → Option ℕ
root_in n t = root_of (value_at n t)

-- each root that a name promises has that name
abbrev pub Knows : Tree Held → Tree Name → Type 0
Knows names roots = (n root : ℕ) → root_in n names ≡ Some root → value_at root roots ≡ Some (record { 0 = n })

-- what a name holds, where a tree was replaced
abbrev pub held_after : ℕ → Link → Option Held → Option Held
held_after old new None = None
held_after old new (Some held) = Some (held_replaced old new held)

-- a tree was replaced by another under each name
abbrev pub IsRenamed : ℕ → Link → Tree Held → Tree Held → Type 0
IsRenamed old new before after = (n : ℕ) → value_at n after ≡ held_after old new (value_at n before)

-- what a name holds, where a set has so many tasks now, and this cell waits until it is empty
abbrev pub held_told : ℕ → Option Link → Option Held → Option Held
held_told tasks empty None = None
held_told tasks empty (Some held) = Some (held_regrouped tasks empty held)
