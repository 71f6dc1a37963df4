-- Worlds that are the same but for what was taken of them: asks, ended requests, abandoned cells, and the names that were kept for these lists only.
use Rattle.std.specs.Prelude.{◌≡◌, ℕ, ◌<◌, List, [], ◌∷◌, Some, Bool, true, false, not, map, filter}
use Rattle.kj_model.specs.World.{World, State, Named, Held, AskCell, Awaited, Asked, Ended}
use Rattle.kj_ownership.specs.Kept.{is_spent}

-- what taking calls change
pub record Lists : Type 0 where
  pub names : List Named
  pub asks : List Asked
  pub ended : List Ended
  pub abandoned : List ℕ

-- the same world with other lists
abbrev pub with_lists : Lists → World → World
with_lists l w = record w { names = l.names; asks = l.asks; ended = l.ended; abandoned = l.abandoned }

-- an ask's cell, as if its ask was taken
abbrev pub as_taken : Held → Held
as_taken (AskCell cell is_taken) = AskCell cell true
as_taken other = other

-- the same for a name
abbrev pub name_as_taken : Named → Named
name_as_taken x = record { name = x.name; held = as_taken x.held }

-- the names but the loose ones, with each ask as if it was taken
abbrev pub firm_names : (ℕ → Bool) → List Named → List Named
firm_names loose names = map name_as_taken (filter (λ (x : Named). not (loose x.name)) names)

-- each of these names is above this one
abbrev pub AllAbove : ℕ → List Named → Type 0
AllAbove n [] = Unit {0}
AllAbove n (x ∷ xs) = (n < x.name) × AllAbove n xs

-- names stand by rising number
abbrev pub AreRising : List Named → Type 0
AreRising [] = Unit {0}
AreRising (x ∷ xs) = AllAbove x.name xs × AreRising xs

-- a loose name holds an ended request or the cell of an ask
abbrev pub LooseAreSpent : (ℕ → Bool) → List Named → Type 0
LooseAreSpent loose [] = Unit {0}
LooseAreSpent loose (x ∷ xs) = (loose x.name ≡ true → is_spent (Some x.held) ≡ true) × LooseAreSpent loose xs

-- names in order of which the loose ones are kept for a list only
pub record Sorted (loose : ℕ → Bool) (names : List Named) : Type 0 where
  pub spent : LooseAreSpent loose names
  pub rising : AreRising names

-- two worlds with the same in all but asks, ended requests, abandoned cells and loose names; whether an ask was taken may differ
pub record Alike (loose : ℕ → Bool) (w v : World) : Type 0 where
  pub lists : Lists
  pub seen : v ≡ with_lists lists w
  pub same : firm_names loose v.names ≡ firm_names loose w.names
  pub left : Sorted loose w.names
  pub right : Sorted loose v.names
  pub awaited : (a : Awaited) → w.awaited ≡ Some a → loose a.name ≡ false

-- the same for states, with the same record
pub record AlikeStates (loose : ℕ → Bool) (s t : State) : Type 0 where
  pub world : Alike loose s.world t.world
  pub past : t.past ≡ s.past
