-- Members of lists, by slot.
use Rattle.std.specs.Prelude.{◌≡◌, ◌≢◌, ◌<◌, ◌≤◌, ℕ, ◌+◌, ◌%◌, List, [], ◌∷◌, Option, None, Some, Bool, true, false, ◌==◌, length, filter, map, reverse, slice_index_or, slice_get, IsSome}
use Rattle.kj_base.specs.declared.numbers.Name.{Name}
use Rattle.kj_model.specs.Nodes.{is_in, dropped}
use Rattle.linked_lists.specs.Lists.{members}
use Rattle.promise_nodes.specs.Members.{AreApart, AreEachOnce}
use Rattle.promise_graph.specs.declared.fields.Marks.{Marks}
use Rattle.promise_graph.specs.declared.memberships.Memberships.{Memberships}
use Rattle.promise_graph.specs.Members.{is_given}

-- the bucket of a list, which is a number behind all slots
abbrev pub bucket : ℕ → ℕ → ℕ
bucket slots list = slots + list % (slots + 1)

-- the list of a slot, if it is in one
abbrev pub list_at : Memberships → ℕ → Option Name
list_at x s = slice_index_or x.lists.items s None

-- whether it is this list
abbrev pub is_list : ℕ → Option Name → Bool
is_list list None = false
is_list list (Some name) = name.0 == list

-- the slots of a list, the newest first
abbrev pub slots_in : Memberships → ℕ → ℕ → List ℕ
slots_in x slots list = filter (λ s. is_list list (list_at x s)) (members x.links (bucket slots list))

-- buckets have slots, and a slot stands in the bucket of its list, or alone
pub record AreListed (x : Memberships) (slots : ℕ) : Type 0 where
  pub all_links : length x.links ≡ slots + (slots + 1)
  pub all_lists : length x.lists.items ≡ slots
  pub low : (place s : ℕ) → slots ≤ place → is_in s (members x.links place) ≡ true → s < slots
  pub alone : (s : ℕ) → s < slots → list_at x s ≡ None → members x.links s ≡ []
  pub placed : (s : ℕ) (list : Name) → list_at x s ≡ Some list → is_in s (members x.links (bucket slots list.0)) ≡ true

-- no slot is in a list
pub record AreNone (x : Memberships) (slots : ℕ) : Type 0 where
  pub listed : AreListed x slots
  pub none : (s : ℕ) → list_at x s ≡ None
  pub empty : (list : ℕ) → slots_in x slots list ≡ []

-- a slot is the newest of a list now
pub record HasJoined (old new : Memberships) (slots slot : ℕ) (list : Name) : Type 0 where
  pub here : slots_in new slots list.0 ≡ slot ∷ slots_in old slots list.0
  pub elsewhere : (other : ℕ) → other ≢ list.0 → slots_in new slots other ≡ slots_in old slots other
  pub list_is : list_at new slot ≡ Some list
  pub lists : (s : ℕ) → s ≢ slot → list_at new s ≡ list_at old s

-- a slot is in no list now
pub record HasLeft (old new : Memberships) (slots slot : ℕ) : Type 0 where
  pub each : (list : ℕ) → slots_in new slots list ≡ dropped slot (slots_in old slots list)
  pub gone : list_at new slot ≡ None
  pub lists : (s : ℕ) → s ≢ slot → list_at new s ≡ list_at old s

-- a list is empty now
pub record HasCleared (old new : Memberships) (slots list : ℕ) : Type 0 where
  pub here : slots_in new slots list ≡ []
  pub elsewhere : (other : ℕ) → other ≢ list → slots_in new slots other ≡ slots_in old slots other
  pub lists : (s : ℕ) → IsSome (list_at new s) → IsSome (list_at old s)

-- the number of the node in a slot
abbrev pub number_in : List ℕ → ℕ → ℕ
number_in numbers s = slice_index_or numbers s 0

-- the live ones among the members of each list are in the slots of that list
pub record HasLists (m : Marks) (x : Memberships) (lists : ℕ → List ℕ) : Type 0 where
  pub named : (list : ℕ) → filter (is_given m.numbers.items) (reverse (lists list)) ≡ map (number_in m.numbers.items) (slots_in x m.slots list)
  pub live : (s : ℕ) → IsSome (list_at x s) → 0 < number_in m.numbers.items s
  pub below : (list n : ℕ) → is_in n (lists list) ≡ true → n < m.next
  pub apart : AreApart lists
  pub once : (list : ℕ) → AreEachOnce (lists list)

-- the same, where the node of this number left its list, if it was in one
pub record HasListsBut (n : ℕ) (m : Marks) (x : Memberships) (lists : ℕ → List ℕ) : Type 0 where
  pub named : (list : ℕ) → dropped n (filter (is_given m.numbers.items) (reverse (lists list))) ≡ map (number_in m.numbers.items) (slots_in x m.slots list)
  pub live : (s : ℕ) → IsSome (list_at x s) → (0 < number_in m.numbers.items s) × (number_in m.numbers.items s ≢ n)
  pub below : (list n : ℕ) → is_in n (lists list) ≡ true → n < m.next
  pub apart : AreApart lists
  pub once : (list : ℕ) → AreEachOnce (lists list)

-- the number of the node in a slot, if there is one
abbrev pub numbered_in : List ℕ → Option ℕ → Option ℕ
numbered_in numbers None = None
numbered_in numbers (Some s) = slice_get numbers s
