-- What the keepers of nodes and names and the stacks of walks keep, whatever world they stand for.
use Rattle.std.specs.Prelude.{◌≡◌, ℕ, ◌+◌, ◌≤◌, ◌<◌, Option, Some, Bool, false}
use Rattle.promise_nodes.specs.Kept.{OnlyRises}
use Rattle.promise_names.specs.Held.{AreFree}
use Rattle.promise_walks.specs.declared.land.Given.{Given}
use Rattle.promise_walks.specs.declared.land.Given.TheVariants.{Gave, Took}

-- what they show of themselves
pub record Ground : Type 0 where
  -- whether a node was made a tree
  pub taken : ℕ → Bool
  -- whether a number is of neither a hub nor a branch
  pub plain : ℕ → Bool
  pub next : ℕ
  pub slots : ℕ
  -- the root that each name promises
  pub roots : ℕ → Option ℕ
  pub count : ℕ
  pub limit : ℕ
  -- for how many frames and searches the stacks have room
  pub frames : ℕ
  pub search : ℕ

-- the same, in this order
abbrev pub ground : (ℕ → Bool) → (ℕ → Bool) → ℕ → ℕ → (ℕ → Option ℕ) → ℕ → ℕ → ℕ → ℕ → Ground
ground taken plain next slots roots count limit frames search = record { taken = taken; plain = plain; next = next; slots = slots; roots = roots; count = count; limit = limit; frames = frames; search = search }

-- no tree that a name promises has an owner, there are no more names than there may be, and the stacks have room
pub record IsSound (g : Ground) : Type 0 where
  pub free : AreFree g.roots g.taken g.next
  pub few : g.count ≤ g.limit
  pub frames_room : g.slots + 1 ≤ g.frames
  pub search_room : g.slots + 1 ≤ g.search

-- what a call keeps
pub record Keeps (old new : Ground) : Type 0 where
  pub sound : IsSound new
  pub plain : OnlyRises old.plain new.plain
  pub next_is : new.next ≡ old.next
  pub slots_are : new.slots ≡ old.slots
  pub limit_is : new.limit ≡ old.limit

-- a root that was built, that nothing owns, and that no name promises
pub record IsLoose (roots : ℕ → Option ℕ) (taken : ℕ → Bool) (next root : ℕ) : Type 0 where
  pub untaken : taken root ≡ false
  pub built : root < next
  pub unnamed : (name : ℕ) → roots name ≡ Some root → ⊥

-- a promise that a step gave left its name
abbrev pub IsGiven : (ℕ → Option ℕ) → (ℕ → Bool) → ℕ → Given → Type 0
IsGiven roots taken next (Gave outcome) = Unit {0}
IsGiven roots taken next (Took root) = IsLoose roots taken next root.number.0
