use Rattle.std.proofs.Common.{ℕ, ◌≤◌, ◌-◌, List, [], length, refl, sym, ap, subst, ◌∙◌, arith}
use Rattle.http_core.specs.Reading.{ReadsOn}
use Rattle.http_stream.specs.Stages.{behind}
use Rattle.http_stream.proofs.OctetLemmas.{reads_at}
use Rattle.http_stream.proofs.ReadLemmas.{between_open}
use Rattle.http_stream.proofs.StepLemmas.{unlooked_open}
use Rattle.http_stream.proofs.connection.StreamConnection.look.Goals as goal

pub returns-clause-stands : goal.returns-clause-stands
returns-clause-stands g c told is =
    let old = c.args.self.now in
    let left = c.in-Some.left in
    let at = unlooked_open old.abandoned old.stage left (sym c.unlooked.ensures ∙ c.in-Some.is) in
    let has = between_open told (g.C.Stream.told old.stream) (g.C.Stream.faults old.stream) old.stage old.part old.request old.octets old.made old.sent old.answered old.abandoned left at.1 is in
    let piece = c.last.ensures.end (subst (λ (b : List ℕ). left ≤ length b) (sym c.as_slice.ensures) has.0) ∙ ap (λ (b : List ℕ). behind b left) c.as_slice.ensures in
    let reads = subst (λ (b : List ℕ). ReadsOn [] b c.in_ok-read.read) piece (c.in_ok-read.ensures.steps [] refl) in
    c.take_read.ensures.stands told (behind old.octets left) (reads_at old.octets [] (length old.octets - left) c.in_ok-read.read (omega arith) reads) has.1
