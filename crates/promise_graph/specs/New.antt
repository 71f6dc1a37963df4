-- The marks of a new graph.
use Rattle.std.specs.Prelude.{◌≡◌, ◌<◌, ℕ, ◌+◌, ◌*◌, List, [], length, replicate, None, slice_index_or, vec_capacity}
use Rattle.promise_graph.specs.declared.fields.Marks.{Marks}
use Rattle.promise_graph.specs.Kept.{nobody}

-- so many slots, each at its own place
pub record AreSlots (xs : List ℕ) (count : ℕ) : Type 0 where
  pub all : length xs ≡ count
  pub each : (s : ℕ) → s < count → slice_index_or xs s 0 ≡ s

-- nothing was built
pub record AreNew (m : Marks) (count : ℕ) : Type 0 where
  pub numbers_are : m.numbers.items ≡ replicate count 0
  pub owners_are : m.owners.items ≡ replicate count nobody
  pub nexts_are : AreSlots m.rings.nexts.items count
  pub prevs_are : AreSlots m.rings.prevs.items count
  pub nexts_tasks : AreSlots m.tasks.nexts.items (count + 1)
  pub prevs_tasks : AreSlots m.tasks.prevs.items (count + 1)
  pub nexts_hubs : AreSlots m.hubs.nexts.items (count + 1)
  pub prevs_hubs : AreSlots m.hubs.prevs.items (count + 1)
  pub index_is : m.index.items ≡ []
  pub room : 2 * count < vec_capacity m.index
  pub firing_is : m.firing ≡ None
  pub awaited_is : m.awaited ≡ None
  pub next_is : m.next ≡ 1
  pub slots_are : m.slots ≡ count
