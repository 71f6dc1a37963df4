-- Lists that are linked in place.
use Rattle.std.specs.Prelude.{ℕ, zero, suc, ◌≡◌, ◌≢◌, true, false, Option, slice_get, ◌<◌, ◌≤◌, ◌^◌, ◌+◌, Bool, not, if◌then◌else◌, ◌==◌, nat_eq, List, [], ◌∷◌, length, slice_index_or, insert, map}
use Rattle.std.specs.List.{list_any, position_or_len, filter, range_with_len, AllByRecursion, IsDistinct}
use Rattle.linked_lists.specs.declared.Link.{Link}
use Rattle.linked_lists.specs.declared.LinkedLists.TheInside.{Inside}

-- the members of the list of a head, among the lists of all numbers
abbrev pub members : List (List ℕ) → ℕ → List ℕ
members lists head = slice_index_or lists head []

-- whether a number is one of these
abbrev pub is_in : ℕ → List ℕ → Bool
is_in e xs = list_any (λ x. x == e) xs

-- the place of a number, or else the length
abbrev pub place_of : ℕ → List ℕ → ℕ
place_of e xs = position_or_len (λ x. x == e) xs

-- with a number directly before a member, or else at the end
abbrev pub with_before : ℕ → ℕ → List ℕ → List ℕ
with_before place number xs = insert xs (place_of place xs) number

-- with a number directly behind a member, or in front where that is the head
abbrev pub with_behind : ℕ → ℕ → ℕ → List ℕ → List ℕ
with_behind head place number xs = if place == head then number ∷ xs else insert xs (place_of place xs + 1) number

-- the member directly behind another one, if there is one
abbrev pub member_behind : ℕ → List ℕ → Option ℕ
member_behind member xs = slice_get xs (place_of member xs + 1)

-- the other members
abbrev pub without : ℕ → List ℕ → List ℕ
without number xs = filter (λ x. not (x == number)) xs

-- whether a place is a head itself or one of its members
abbrev pub is_within : List (List ℕ) → ℕ → ℕ → Bool
is_within lists head place = is_in place (head ∷ members lists head)

-- no head has this number among its members
abbrev pub IsUnlisted : List (List ℕ) → ℕ → Type 0
IsUnlisted lists number = (head : ℕ) → head ≢ number → is_in number (members lists head) ≡ false

-- the list that has the place has the number directly before it now
abbrev pub PutsBefore : List (List ℕ) → List (List ℕ) → ℕ → ℕ → Type 0
PutsBefore old new place number = (head : ℕ) → is_within old head place ≡ true → members new head ≡ with_before place number (members old head)

-- the list that has the place has the number directly behind it now
abbrev pub PutsBehind : List (List ℕ) → List (List ℕ) → ℕ → ℕ → Type 0
PutsBehind old new place number = (head : ℕ) → is_within old head place ≡ true → members new head ≡ with_behind head place number (members old head)

-- the lists that don't have the place are as they were
abbrev pub KeepsOtherLists : List (List ℕ) → List (List ℕ) → ℕ → ℕ → Type 0
KeepsOtherLists old new place number = (head : ℕ) → head ≢ number → is_within old head place ≡ false → members new head ≡ members old head

-- no list has the number any more, and the other members are as they were
abbrev pub TakesOut : List (List ℕ) → List (List ℕ) → ℕ → Type 0
TakesOut old new number = (head : ℕ) → head ≢ number → members new head ≡ without number (members old head)

-- a number that stands alone
abbrev pub alone : ℕ → Link
alone number = record { next = number; previous = number }

-- the number behind this one
abbrev pub next_of : List Link → ℕ → ℕ
next_of links number = (slice_index_or links number (alone number)).next

-- the number before this one
abbrev pub previous_of : List Link → ℕ → ℕ
previous_of links number = (slice_index_or links number (alone number)).previous

-- the neighbours, where one number has another one now
abbrev pub redirected : ℕ → ℕ → (ℕ → ℕ) → ℕ → ℕ
redirected number neighbour neighbours x = if x == number then neighbour else neighbours x

-- from this number on, so many at most, up to the head
abbrev pub walk : (ℕ → ℕ) → ℕ → ℕ → ℕ → List ℕ
walk next zero number head = []
walk next (suc k) number head = if number == head then [] else number ∷ walk next k (next number) head

-- all behind the head, up to the head
abbrev pub list_of : List Link → ℕ → List ℕ
list_of links head = walk (next_of links) (length links) (next_of links head) head

-- the list of each number
abbrev pub view_of : Inside → List (List ℕ)
view_of lists = map (list_of lists.links.items) (range_with_len 0 (length lists.links.items))

-- from one number through these to another, both ways
abbrev pub IsPath : (ℕ → ℕ) → (ℕ → ℕ) → ℕ → List ℕ → ℕ → Type 0
IsPath next previous a [] b = (next a ≡ b) × (previous b ≡ a)
IsPath next previous a (x ∷ xs) b = (next a ≡ x) × (previous x ≡ a) × IsPath next previous x xs b

-- these are the numbers of a ring behind the head, in order
pub record IsRing (next previous : ℕ → ℕ) (size head : ℕ) (xs : List ℕ) : Type 0 where
  pub path : IsPath next previous head xs head
  pub apart : IsDistinct nat_eq (head ∷ xs)
  pub below : AllByRecursion (λ x. x < size) xs

-- each number's list is what stands behind it in its ring, and numbers are of 32 bits
pub record IsKept (lists : Inside) : Type 0 where
  pub rings : (head : ℕ) → IsRing (next_of lists.links.items) (previous_of lists.links.items) (length lists.links.items) head (list_of lists.links.items head)
  pub size : length lists.links.items ≤ 2 ^ 32
