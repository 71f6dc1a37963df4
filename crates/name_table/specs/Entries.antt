-- Names with what they hold, by rising name.
use Rattle.std.specs.Prelude.{◌≡◌, ◌<◌, ℕ, zero, suc, List, [], ◌∷◌, Option, None, Some, Bool, true, false, not, ◌==◌, nat_lt, slice_get, filter, if◌then◌else◌}
use Rattle.std.specs.List.{AllByRecursion}
use Rattle.kj_base.specs.declared.nodes.Link.{Link}
use Rattle.kj_base.specs.declared.numbers.Name.{Name}
use Rattle.kj_model.specs.World.{Named}
use Rattle.promise_names.specs.Held.{IsHeld}
use Rattle.promise_names.specs.declared.names.Awaited.{Awaited}
use Rattle.promise_names.specs.declared.names.Held.{Held}
use Rattle.promise_names.specs.declared.names.Held.TheVariants.{Promise, Group}
use Rattle.name_table.specs.declared.entries.Entry.{Entry}

-- the names rise
abbrev pub IsRising : List Entry → Type 0
IsRising [] = Unit {0}
IsRising (e ∷ es) = AllByRecursion (λ (later : Entry). e.name.0 < later.name.0) es × IsRising es

-- how many names at the front are lower
abbrev pub rank : ℕ → List Entry → ℕ
rank n [] = zero
rank n (e ∷ es) = if nat_lt e.name.0 n then suc (rank n es) else zero

-- whether it is this name's
abbrev pub is_named : ℕ → Option Entry → Bool
is_named n None = false
is_named n (Some e) = e.name.0 == n

-- whether the entry at a place is this name's
abbrev pub is_name_at : ℕ → List Entry → ℕ → Bool
is_name_at n es place = is_named n (slice_get es place)

-- what an entry holds, where it is this name's
abbrev pub held_if : ℕ → Option Entry → Option Held
held_if n None = None
held_if n (Some e) = if e.name.0 == n then Some e.held else None

-- what a name holds
abbrev pub held_in : ℕ → List Entry → Option Held
held_in n [] = None
held_in n (e ∷ es) = if e.name.0 == n then Some e.held else held_in n es

-- the entries but this name's
abbrev pub without_entry : ℕ → List Entry → List Entry
without_entry n es = filter (λ (e : Entry). not (e.name.0 == n)) es

-- a new entry in its place by name
abbrev pub with_entry : Entry → List Entry → List Entry
with_entry x [] = x ∷ []
with_entry x (y ∷ ys) = if nat_lt x.name.0 y.name.0 then x ∷ y ∷ ys else y ∷ with_entry x ys

-- this name holds this now
abbrev pub entered : Entry → List Entry → List Entry
entered x es = with_entry x (without_entry x.name.0 es)

-- a tree, where another was replaced by it
abbrev pub link_if : Bool → Link → Link → Link
link_if true new root = new
link_if false new root = root

-- what a name holds, where a tree was replaced
abbrev pub held_replaced : ℕ → Link → Held → Held
held_replaced old new (Promise root) = Promise (link_if (root.number.0 == old) new root)
held_replaced old new other = other

-- an entry, where a tree was replaced
abbrev pub entry_replaced : ℕ → Link → Entry → Entry
entry_replaced old new e = record { name = e.name; held = held_replaced old new e.held }

-- the promise that is awaited, where a tree was replaced
abbrev pub awaited_replaced : ℕ → Link → Option Awaited → Option Awaited
awaited_replaced old new None = None
awaited_replaced old new (Some a) = Some (record { name = a.name; root = link_if (a.root.number.0 == old) new a.root })

-- a set that has so many tasks, and this cell waits until it is empty
abbrev pub held_regrouped : ℕ → Option Link → Held → Held
held_regrouped tasks empty (Group error old waits) = Group error tasks empty
held_regrouped tasks empty other = other

-- the entries, where what this name held is a set that has so many tasks now
abbrev pub entries_regrouped : Option Held → Name → ℕ → Option Link → List Entry → List Entry
entries_regrouped None group tasks empty es = es
entries_regrouped (Some held) group tasks empty es = entered (regrouped_as held) es
  where
    regrouped_as : Held → Entry
    regrouped_as held = record { name = group; held = held_regrouped tasks empty held }

-- what the definitions see of an entry: a set has some tasks, and a canceler no Wraps
pub record IsSeen (e : Entry) (x : Named) : Type 0 where
  pub name : x.name ≡ e.name.0
  pub held : IsHeld e.held x.held

-- what the definitions see of all, one by one
abbrev pub AreSeen : List Entry → List Named → Type 0
AreSeen [] [] = Unit {0}
AreSeen [] (x ∷ xs) = ⊥
AreSeen (e ∷ es) [] = ⊥
AreSeen (e ∷ es) (x ∷ xs) = IsSeen e x × AreSeen es xs
