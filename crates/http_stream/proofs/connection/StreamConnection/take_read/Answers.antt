use Rattle.std.proofs.Common.{subst}
use Rattle.http_stream.specs.Standing.{ReadsAt}
use Rattle.http_stream.proofs.ReadLemmas.{stands_fault}
use Rattle.http_stream.proofs.connection.StreamConnection.take_read.Goals as goal

pub returns-in_ok-push_fault-in-Fault-clause-stands : goal.returns-in_ok-push_fault-in-Fault-clause-stands
returns-in_ok-push_fault-in-Fault-clause-stands g c told rest at is =
    let old = c.args.self.now in
    stands_fault told (g.C.Stream.told old.stream) (g.C.Stream.faults old.stream) old.part old.request old.octets rest old.made c.push_fault.new.out old.sent old.answered old.abandoned c.in-Fault.code old.sent_is c.in_ok-push_fault-in-Fault.ensures.ok
    (subst (ReadsAt old.octets rest) c.in-Fault.is at) is
