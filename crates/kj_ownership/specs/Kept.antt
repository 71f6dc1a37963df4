-- What each state between two calls keeps.
use Rattle.std.specs.Prelude.{◌≡◌, ℕ, List, [], ◌∷◌, Option, None, Some, Bool, true, false}
use Rattle.kj_model.specs.World.{State, World, Held, AskCell, RequestOf, Ended, held_at}
use Rattle.kj_model.specs.Calls.{Call, CallTakeEnded, CallTakeAbandoned, CallClose}
use Rattle.kj_ownership.specs.Standing.{Owned}
use Rattle.kj_ownership.specs.Shapes.{Shaped}

-- between two turns no event fires, and nothing is left over while the loop runs
pub record Rests (s : State) : Type 0 where
  pub owned : Owned s
  pub shaped : Shaped s.world
  pub calm : s.world.firing ≡ None
  pub left_over : s.world.stopped ≡ false → s.world.left_over ≡ []

-- between two calls no event fires and no tree is awaited, and nothing is left over while the loop runs
pub record Kept (s : State) : Type 0 where
  pub owned : Owned s
  pub shaped : Shaped s.world
  pub calm : s.world.firing ≡ None
  pub none_awaited : s.world.awaited ≡ None
  pub left_over : s.world.stopped ≡ false → s.world.left_over ≡ []

-- a name that goes without leaving a root behind: it holds nothing, an ended request or the cell of an ask
abbrev pub is_spent : Option Held → Bool
is_spent None = true
is_spent (Some (AskCell cell is_taken)) = true
is_spent (Some (RequestOf None)) = true
is_spent other = false

-- a taking call frees a name that goes so
abbrev pub TakesSpent : Call → World → Type 0
TakesSpent CallTakeEnded w = (e : Ended) (more : List Ended) → w.ended ≡ e ∷ more → is_spent (held_at e.request w.names) ≡ true
TakesSpent CallTakeAbandoned w = (cell : ℕ) (more : List ℕ) → w.abandoned ≡ cell ∷ more → is_spent (held_at cell w.names) ≡ true
TakesSpent other w = Unit {0}

-- a call that doesn't close the loop
abbrev pub is_open : Call → Bool
is_open CallClose = false
is_open other = true
