use Rattle.std.proofs.Common.{sym, ap, refl, ◌∙◌}
use Rattle.std.specs.Prelude.{slice_get}
use Rattle.executor_core.specs.Acts.{Desk, is_canceling}
use Rattle.executor_core.proofs.Moves.{least_is}
use Rattle.executor_core.proofs.Steps.{canceling_runs}
use Rattle.executor_core.proofs.Links.{runs_not_waits, canceling_not_askable}
use Rattle.executor_core.proofs.board.Board.next.Goals as goal

pub set-requires : goal.set-requires
set-requires c = let e = c.in-Some-first_canceling.ensures in let q = least_is is_canceling _ c.in-Some-first_canceling.request (sym e.value) in let runs = canceling_runs q.0.state q.2 in
    (q.0, ap (λ (d : Desk). slice_get d.requests c.in-Some-first_canceling.request) e.same ∙ q.1, sym (runs_not_waits q.0.state runs), sym (canceling_not_askable q.0.state q.2), refl)
