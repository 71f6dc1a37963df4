use Rattle.std.proofs.Common.{◌≡◌, ◌≢◌, ℕ, length}
use Rattle.std.specs.Prelude.{IsSome}
use Rattle.promise_graph.specs.Memberships.{list_at, slots_in, AreListed}
use Rattle.promise_graph.proofs.memberships.clear.Given as goal

abbrev pub invariant-clearing : goal.invariant-clearing
invariant-clearing l = record {
  kept : AreListed l.x l.slots;
  elsewhere : (other : ℕ) → other ≢ l.list.0 → slots_in l.x l.slots other ≡ slots_in l.fn.x l.slots other;
  lists : (s : ℕ) → IsSome (list_at l.x s) → IsSome (list_at l.fn.x s);
}

abbrev pub decreases-clearing : goal.decreases-clearing
decreases-clearing l = length (slots_in l.x l.slots l.list.0)
