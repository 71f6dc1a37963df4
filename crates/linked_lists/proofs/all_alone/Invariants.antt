-- The numbers so far are alone.
use Rattle.std.proofs.Common.{◌≡◌, ℕ, length}
use Rattle.linked_lists.specs.Lists.{next_of, previous_of}
use Rattle.linked_lists.proofs.all_alone.Given as goal

abbrev pub invariant-loop-number : goal.invariant-loop-number
invariant-loop-number l = record { next : (x : ℕ) → next_of l.links.items x ≡ x; previous : (x : ℕ) → previous_of l.links.items x ≡ x; size : length l.links.items ≡ l.number }
