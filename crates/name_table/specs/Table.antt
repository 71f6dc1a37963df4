-- What a contract sees of a `NameTable`.
use Rattle.std.specs.Prelude.{◌≡◌, ℕ, ◌+◌, ◌≤◌, ◌<◌, ◌^◌, List, [], Option, None, Some, Bool, not, ◌==◌, map, length, vec_capacity, if◌then◌else◌}
use Rattle.std.specs.List.{AllByRecursion}
use Rattle.kj_base.specs.declared.nodes.Link.{Link}
use Rattle.kj_model.specs.World.{World}
use Rattle.promise_nodes.specs.Kept.{awaited_root}
use Rattle.promise_names.specs.Held.{IsLoopsOwn, awaited_key, awaited_shown, root_of}
use Rattle.promise_names.specs.declared.names.Awaited.{Awaited}
use Rattle.name_table.specs.declared.entries.Entry.{Entry}
use Rattle.name_table.specs.declared.table.NameTable.TheInside.{Inside}
use Rattle.name_table.specs.Entries.{IsRising, held_in, AreSeen}

-- the entries by rising name, how many names there may be, the promise that is awaited, what is left over, and whether the loop has stopped
pub record Table : Type 0 where
  pub entries : List Entry
  pub limit : ℕ
  pub awaited : Option Awaited
  pub over : List Link
  pub stopped : Bool

-- what is seen
abbrev pub view_of : Inside → Table
view_of t = record { entries = t.entries.items; limit = t.limit; awaited = t.awaited; over = t.over.items; stopped = t.stopped }

-- the names rise, and there is room for all that there may be, which a `u32` counts, and one more
pub record IsKept (t : Inside) : Type 0 where
  pub rising : IsRising t.entries.items
  pub few : length t.entries.items ≤ t.limit + 1
  pub counted : t.limit < 2 ^ 32
  pub room : t.limit + 1 ≤ vec_capacity t.entries
  pub room_over : 2 ≤ vec_capacity t.over

-- the numbers of trees
abbrev pub trees : List Link → List ℕ
trees links = map (λ (tree : Link). tree.number.0) links

-- whether it is another tree
abbrev pub is_other : ℕ → Link → Bool
is_other n tree = not (tree.number.0 == n)

-- no name holds the cell of an ask, or a request
abbrev pub AreLoopsOwn : List Entry → Type 0
AreLoopsOwn es = AllByRecursion (λ (e : Entry). IsLoopsOwn e.held) es

-- no name has the key of what is awaited
abbrev pub AreNames : List Entry → Type 0
AreNames es = AllByRecursion (λ (e : Entry). e.name.0 < awaited_key) es

-- the entries are seen in the names of this world, which has their limit, and no asks, ended requests or abandoned cells
pub record Stands (t : Table) (w : World) : Type 0 where
  pub names : AreSeen t.entries w.names
  pub rising : IsRising t.entries
  pub no_asks : AreLoopsOwn t.entries
  pub no_key : AreNames t.entries
  pub awaited : w.awaited ≡ awaited_shown t.awaited
  pub over : w.left_over ≡ trees t.over
  pub asks : w.asks ≡ []
  pub ended : w.ended ≡ []
  pub abandoned : w.abandoned ≡ []
  pub limit : w.limits.names ≡ t.limit
  pub stopped : w.stopped ≡ t.stopped

-- the root that a name promises, or that is awaited
abbrev pub root_at : Table → ℕ → Option ℕ
root_at t name = if name == awaited_key then awaited_root (awaited_shown t.awaited) else root_of (held_in name t.entries)

-- how many promises are awaited
abbrev pub held_count : Option Awaited → ℕ
held_count None = 0
held_count (Some a) = 1

-- how many promises are awaited, and names are there
abbrev pub count_of : Table → ℕ
count_of t = length t.entries + held_count t.awaited
