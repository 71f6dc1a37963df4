-- Rings through slots.
use Rattle.std.specs.Prelude.{◌≡◌, ◌≢◌, ◌<◌, ℕ, List, [], ◌∷◌, Bool, true, false, length, slice_index_or}
use Rattle.std.specs.List.{AllByRecursion}
use Rattle.promise_graph.specs.declared.fields.Rings.{Rings}

-- the slot behind this one
abbrev pub next_at : Rings → ℕ → ℕ
next_at r s = slice_index_or r.nexts.items s 0

-- the slot before this one
abbrev pub prev_at : Rings → ℕ → ℕ
prev_at r s = slice_index_or r.prevs.items s 0

-- from one slot through these to another, both ways
abbrev pub IsPath : (ℕ → ℕ) → (ℕ → ℕ) → ℕ → List ℕ → ℕ → Type 0
IsPath next prev a [] b = (next a ≡ b) × (prev b ≡ a)
IsPath next prev a (x ∷ xs) b = (next a ≡ x) × (prev x ≡ a) × IsPath next prev x xs b

-- from a hub through these back to it
abbrev pub IsRing : (ℕ → ℕ) → (ℕ → ℕ) → ℕ → List ℕ → Type 0
IsRing next prev h xs = IsPath next prev h xs h

-- this slot is none of those
abbrev pub IsOut : ℕ → List ℕ → Type 0
IsOut x ys = AllByRecursion (λ y. x ≢ y) ys

-- the hub is none of these, and no two of them are the same
abbrev pub AreApart : ℕ → List ℕ → Type 0
AreApart h [] = Unit {0}
AreApart h (x ∷ xs) = (h ≢ x) × IsOut x xs × AreApart h xs

-- each slot has a slot on both sides, which has it on its other side
pub record ArePaired (r : Rings) (slots : ℕ) : Type 0 where
  pub all_next : length r.nexts.items ≡ slots
  pub all_prev : length r.prevs.items ≡ slots
  pub next_in : (s : ℕ) → s < slots → next_at r s < slots
  pub prev_in : (s : ℕ) → s < slots → prev_at r s < slots
  pub back : (s : ℕ) → s < slots → prev_at r (next_at r s) ≡ s
  pub forth : (s : ℕ) → s < slots → next_at r (prev_at r s) ≡ s

-- this slot is in no ring now, and those beside it are neighbours
pub record IsCut (old new : Rings) (m : ℕ) : Type 0 where
  pub paired : ArePaired new (length old.nexts.items)
  pub alone : next_at new m ≡ m
  pub closed_next : prev_at old m ≢ m → next_at new (prev_at old m) ≡ next_at old m
  pub closed_prev : next_at old m ≢ m → prev_at new (next_at old m) ≡ prev_at old m
  pub other_next : (x : ℕ) → x ≢ m → x ≢ prev_at old m → next_at new x ≡ next_at old x
  pub other_prev : (x : ℕ) → x ≢ m → x ≢ next_at old m → prev_at new x ≡ prev_at old x

-- this slot is the last before a hub now
pub record IsJoined (old new : Rings) (m h : ℕ) : Type 0 where
  pub paired : ArePaired new (length old.nexts.items)
  pub last_next : next_at new (prev_at old h) ≡ m
  pub new_prev : prev_at new m ≡ prev_at old h
  pub new_next : next_at new m ≡ h
  pub hub_prev : prev_at new h ≡ m
  pub other_next : (x : ℕ) → x ≢ m → x ≢ prev_at old h → next_at new x ≡ next_at old x
  pub other_prev : (x : ℕ) → x ≢ m → x ≢ h → prev_at new x ≡ prev_at old x

-- this slot left its ring, and is the last before a head now
pub record IsListed (old new : Rings) (m h : ℕ) : Type 0 where
  pub between : Rings
  pub cut : IsCut old between m
  pub joined : IsJoined between new m h

-- the same, if it is to be listed
abbrev pub MayBeListed : Bool → Rings → Rings → ℕ → ℕ → Type 0
MayBeListed true old new m h = IsListed old new m h
MayBeListed false old new m h = new ≡ old
