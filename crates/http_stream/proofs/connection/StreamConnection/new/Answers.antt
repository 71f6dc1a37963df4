use Rattle.http_stream.proofs.ReadLemmas.{stands_new}
use Rattle.http_stream.proofs.connection.StreamConnection.new.Goals as goal

pub returns-clause-stands : goal.returns-clause-stands
returns-clause-stands g c told =
    stands_new told (g.C.Stream.told c.args.stream) (g.C.Stream.faults c.args.stream) c.no_request.result c.new.result c.new-2.result c.new-4.result c.new.ensures c.new-2.ensures c.new-4.ensures c.requires.fresh
