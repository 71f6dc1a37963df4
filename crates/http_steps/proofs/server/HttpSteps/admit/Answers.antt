use Rattle.std.proofs.Common.{ap, Some, slice_set}
use Rattle.http_steps.specs.Server.{Server}
use Rattle.http_steps.proofs.server.HttpSteps.admit.Goals as goal

pub returns-clause-admits : goal.returns-clause-admits
returns-clause-admits g c = record {
  held = c.new-connection.result;
  begins = c.new-connection.ensures.begins;
  waits = c.new-connection.ensures.waits;
  server = ap (λ (s : Server g.row.V.Denot g.row.C.Denot). record s { places = slice_set s.places c.args.index (Some c.new-connection.result) }) c.self.view_is;
}
