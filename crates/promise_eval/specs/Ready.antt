-- Keepers of nodes and names that are ready for an evaluation.
use Rattle.std.specs.Prelude.{◌≡◌, ◌≤◌, ◌+◌, ℕ, List, [], Option, Bool}
use Rattle.kj_base.specs.declared.numbers.NodeId.{NodeId}
use Rattle.promise_names.specs.Held.{AreFree}

-- the trees of promises are roots that nothing owns, the names are no more than there may be, and each walk has the
-- room of its stack
pub record IsReady (roots : ℕ → Option ℕ) (count limit : ℕ) (is_taken : ℕ → Bool) (next slots frame_room search_room : ℕ) : Type 0 where
  pub free : AreFree roots is_taken next
  pub few : count ≤ limit
  pub frames : slots + 1 ≤ frame_room
  pub search : slots + 1 ≤ search_room

-- the stack of evaluations has room, and so has the list of the nodes that the closing will free, where nothing is yet
pub record HasMemory (slots pending_room freed_room : ℕ) (freed : List NodeId) : Type 0 where
  pub pending : slots + 1 ≤ pending_room
  pub room : slots ≤ freed_room
  pub empty : freed ≡ []
