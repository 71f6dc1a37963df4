use Rattle.std.proofs.Common.{◌≡◌}
use Rattle.kj_model.specs.Nodes.{is_in}
use Rattle.promise_nodes.specs.Shown.{run_from}
use Rattle.promise_graph.proofs.parts.run_has.Given as goal

abbrev pub invariant-looking : goal.invariant-looking
invariant-looking l = is_in l.n (run_from l.count l.first) ≡ is_in l.n (run_from l.left l.at)

abbrev pub decreases-looking : goal.decreases-looking
decreases-looking l = l.left
