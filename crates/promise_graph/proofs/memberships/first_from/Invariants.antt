use Rattle.std.proofs.Common.{◌≡◌, ℕ, true, IfSome, find, drop, slice_get}
use Rattle.linked_lists.specs.Lists.{members, is_in}
use Rattle.promise_graph.specs.Memberships.{list_at, is_list}
use Rattle.promise_graph.proofs.Searching.{places_left}
use Rattle.promise_graph.proofs.memberships.first_from.Given as goal

abbrev pub invariant-searching : goal.invariant-searching
invariant-searching l =
    let xs = members l.x.links l.place in
    let p = λ (s : ℕ). is_list l.list.0 (list_at l.x s) in
    record {
      inside : IfSome l.at (λ s. is_in s xs ≡ true);
      found : (k : ℕ) → l.fn.start ≡ slice_get xs k → (j : ℕ) × (l.at ≡ slice_get xs j) × (find p (drop j xs) ≡ find p (drop k xs));
    }

abbrev pub decreases-searching : goal.decreases-searching
decreases-searching l = places_left (members l.x.links l.place) l.at
