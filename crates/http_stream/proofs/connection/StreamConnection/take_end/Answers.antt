use Rattle.http_stream.proofs.ReadLemmas.{stands_cut}
use Rattle.http_stream.proofs.connection.StreamConnection.take_end.Goals as goal

pub returns-clause-stands : goal.returns-clause-stands
returns-clause-stands g c told rest reading at_end stage_is is =
    let old = c.args.self.now in
    stands_cut told (g.C.Stream.told old.stream) (g.C.Stream.faults old.stream) old.part old.request old.octets rest old.made c.push_fault.new.out old.sent old.answered old.abandoned old.sent_is c.in_ok-push_fault.ensures.ok c.if-is_idle.ensures reading at_end is
