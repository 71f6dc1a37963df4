-- Members of lists: the tasks of a set, and the Wraps of a canceler.
use Rattle.std.specs.Prelude.{◌≡◌, ℕ, List, [], ◌∷◌, ◌++◌, Option, None, Some, true, false, find, reverse, ◌==◌, if◌then◌else◌}
use Rattle.kj_base.specs.declared.numbers.Name.{Name}
use Rattle.kj_model.specs.Nodes.{is_in, dropped}
pub use Rattle.kj_model.specs.Trees.{AreApart as AreEachOnce}
use Rattle.kj_model.specs.World.{World, Held, Group, Canceler, held_at}
use Rattle.promise_nodes.specs.Kept.{is_live}

-- the tasks of a set, and the Wraps of a canceler; nothing else has any
abbrev pub members_of : Option Held → List ℕ
members_of (Some (Group error tasks empty)) = tasks
members_of (Some (Canceler wraps)) = wraps
members_of other = []

-- the members of each list, which is named as its set or canceler is
abbrev pub lists_in : World → ℕ → List ℕ
lists_in w list = members_of (held_at list w.names)

-- the newest of these members that lives
abbrev pub newest_member : World → List ℕ → Option ℕ
newest_member w members = find (is_live w) (reverse members)

-- the lists, with a node as the newest member of one
abbrev pub with_member : ℕ → ℕ → (ℕ → List ℕ) → ℕ → List ℕ
with_member list n lists other = if other == list then lists other ++ n ∷ [] else lists other

-- the lists, one of them without a node
abbrev pub without_member : ℕ → ℕ → (ℕ → List ℕ) → ℕ → List ℕ
without_member list n lists other = if other == list then dropped n (lists other) else lists other

-- the lists, one of them empty
abbrev pub without_members : ℕ → (ℕ → List ℕ) → ℕ → List ℕ
without_members list lists other = if other == list then [] else lists other

-- a node is a member of no list
abbrev pub IsNoMember : ℕ → (ℕ → List ℕ) → Type 0
IsNoMember n lists = (list : ℕ) → is_in n (lists list) ≡ false

-- the list that a node is a member of, if there is one
abbrev pub IsListOf : ℕ → (ℕ → List ℕ) → Option Name → Type 0
IsListOf n lists None = IsNoMember n lists
IsListOf n lists (Some list) = is_in n (lists list.0) ≡ true

-- no node is a member of two lists
abbrev pub AreApart : (ℕ → List ℕ) → Type 0
AreApart lists = (n list other : ℕ) → is_in n (lists list) ≡ true → is_in n (lists other) ≡ true → list ≡ other

-- the lists of a world are these
abbrev pub AreLists : World → (ℕ → List ℕ) → Type 0
AreLists w lists = (list : ℕ) → lists_in w list ≡ lists list
