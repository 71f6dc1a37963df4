use Rattle.std.proofs.Common.{ℕ, List, ◌++◌}
use Rattle.http_core.specs.Serving.{Grows}
use Rattle.http_core.specs.Reading.{IsReadyRead, IsReading}
use Rattle.http_core.proofs.ServeLemmas.{Serving, left_of}
use Rattle.http_core.proofs.connection.serve.Given as goal

abbrev pub invariant-loop-step : goal.invariant-loop-step
invariant-loop-step g l = record {
  ready : IsReadyRead l.step;
  serving : (bytes : List ℕ) → IsReading l.fn.part bytes → Serving g.S.Service.told (bytes ++ l.fn.piece) l.fn.output l.output l.rest l.step;
  grows : Grows l.fn.output l.output;
}

abbrev pub decreases-loop-step : goal.decreases-loop-step
decreases-loop-step g l = left_of l.step
