use Rattle.std.proofs.Common.{◌+◌, refl, subst}
use Rattle.kj_io.specs.Streams.{Writes}
use Rattle.kj_io.specs.declared.stream.Put.TheVariants as put
use Rattle.http_stream.proofs.ReadLemmas.{later_fault}
use Rattle.http_stream.proofs.WriteLemmas.{slice_from, stands_written}
use Rattle.http_stream.proofs.connection.StreamConnection.write.Goals as goal

pub returns-in-Bytes-clause-stands : goal.returns-in-Bytes-clause-stands
returns-in-Bytes-clause-stands g c told is =
    let before = g.C.Stream.told c.args.self.now.stream in
    let after = g.C.Stream.told c.write-put.new.self in
    stands_written told before after (g.C.Stream.faults c.args.self.now.stream) (g.C.Stream.faults c.write-put.new.self) c.args.self.now.stage c.args.self.now.part c.args.self.now.request c.args.self.now.octets c.args.self.now.made c.args.self.now.sent
    (c.args.self.now.sent + c.in-Bytes.count) c.args.self.now.answered c.args.self.now.abandoned c.args.self.now.abandoned (put.Bytes c.in-Bytes.count)
    (subst (Writes before after (put.Bytes c.in-Bytes.count)) (slice_from c.args.self.now.made c.as_slice.result.now c.args.self.now.sent c.as_slice.ensures) c.in-Bytes.ensures.octets) refl
    (later_fault c.args.self.now.abandoned (g.C.Stream.faults c.args.self.now.stream) (g.C.Stream.faults c.write-put.new.self) c.in-Bytes.ensures.cause.faults_later is.fault) is
