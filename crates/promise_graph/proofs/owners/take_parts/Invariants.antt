use Rattle.std.proofs.Common.{◌≡◌, length, Some, ℕ}
use Rattle.std.specs.Prelude.{if◌then◌else◌}
use Rattle.kj_model.specs.Nodes.{is_in}
use Rattle.promise_nodes.specs.Shown.{run_from}
use Rattle.promise_graph.specs.Slots.{number_at}
use Rattle.promise_graph.specs.Kept.{taker_at}
use Rattle.promise_graph.proofs.owners.take_parts.Given as goal

abbrev pub invariant-taking : goal.invariant-taking
invariant-taking g l = record {
  others : l.marks ≡ record l.fn.marks { owners = l.marks.owners };
  all : length l.marks.owners.items ≡ l.fn.marks.slots;
  takers : (s n : ℕ) → number_at (g.St.Store.node_at l.fn.store) s ≡ Some n → (if is_in n (run_from l.left l.at) then l.taker.number.0 else taker_at l.marks s) ≡ (if is_in n (run_from l.parts.count l.parts.first.number.0) then l.taker.number.0 else taker_at l.fn.marks s);
}

abbrev pub decreases-taking : goal.decreases-taking
decreases-taking g l = l.left
