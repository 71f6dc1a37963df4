use Rattle.std.proofs.Common.{List, ℕ, ◌++◌, drop, subst, sym}
use Rattle.http_core.specs.declared.read.Part.{Part}
use Rattle.http_core.specs.Reading.{IsReading, ReadsOn}
use Rattle.http_stream.proofs.OctetLemmas.{reads_at}
use Rattle.http_stream.proofs.WriteLemmas.{slice_from}
use Rattle.http_stream.proofs.connection.StreamConnection.take_octets.Goals as goal

pub returns-clause-stands : goal.returns-clause-stands
returns-clause-stands g c told rest reading is =
    let octets = c.args.self.now.octets in
    let from = c.args.from in
    let same = subst (λ (p : Part). IsReading p rest) (sym c.replace-part.ensures.value) reading in
    let reads = subst (λ (b : List ℕ). ReadsOn rest b c.in_ok-read.read) (slice_from octets c.as_slice.result.now from c.as_slice.ensures) (c.in_ok-read.ensures.steps rest same) in
    c.take_read.ensures.stands told (rest ++ drop from octets) (reads_at octets rest from c.in_ok-read.read c.requires reads) is
