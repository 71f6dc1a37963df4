use Rattle.std.proofs.Common.{◌≡◌, ℕ}
use Rattle.std.specs.List.{list_any}
use Rattle.kj_model.specs.World.{World}
use Rattle.kj_model.specs.Nodes.{form_at}
use Rattle.kj_model.specs.Listening.{keeps_exception}
use Rattle.promise_nodes.specs.Shown.{run_from}
use Rattle.promise_listening.proofs.ready.some_keeps_exception.Given as goal

abbrev pub invariant-sides : goal.invariant-sides
invariant-sides g l = (w : World) → g.N.Nodes.stands l.nodes w → list_any (λ (side : ℕ). keeps_exception (form_at side w.nodes)) (run_from l.count l.fn.first.number.0) ≡ list_any (λ (side : ℕ). keeps_exception (form_at side w.nodes)) (run_from l.left l.side.number.0)

abbrev pub decreases-sides : goal.decreases-sides
decreases-sides g l = l.left
