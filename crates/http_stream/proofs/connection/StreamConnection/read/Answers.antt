use Rattle.std.proofs.Common.{ℕ, subst, sym, ap, ◌∙◌}
use Rattle.kj_io.specs.Streams.{ReadsBehind, given}
use Rattle.kj_io.specs.declared.stream.Got.{Got}
use Rattle.http_stream.proofs.OctetLemmas.{end_read}
use Rattle.http_stream.proofs.ReadLemmas.{IsReadOn, later_fault, read_on_bytes, read_nothing}
use Rattle.http_stream.proofs.connection.StreamConnection.read.Goals as goal

pub returns-in_err-take_octets-in-Bytes-clause-stands : goal.returns-in_err-take_octets-in-Bytes-clause-stands
returns-in_err-take_octets-in-Bytes-clause-stands g c told is =
    let old = c.args.self.now in
    let before = g.C.Stream.told old.stream in
    let after = g.C.Stream.told c.read_behind.new.stream in
    let later = g.C.Stream.faults c.read_behind.new.stream in
    let on = read_on_bytes told before after (g.C.Stream.faults old.stream) later old.stage old.part old.request old.octets c.read_behind.new.octets old.made old.sent old.answered old.abandoned c.in_ok-got.got c.requires c.in_ok-got.ensures.octets
    c.in_ok-got.ensures.cause.faults_later is in
    let here = subst (λ (from : ℕ). IsReadOn told after later old.part from c.read_behind.new.octets old.made old.sent old.answered old.abandoned) (sym c.len-from.ensures) on in
    c.take_octets.ensures.stands told here.rest here.reading here.between

pub returns-in_err-take_end-in-End-clause-stands : goal.returns-in_err-take_end-in-End-clause-stands
returns-in_err-take_end-in-End-clause-stands g c told is =
    let old = c.args.self.now in
    let before = g.C.Stream.told old.stream in
    let after = g.C.Stream.told c.read_behind.new.stream in
    let later = g.C.Stream.faults c.read_behind.new.stream in
    let fault = later_fault old.abandoned (g.C.Stream.faults old.stream) later c.in_ok-got.ensures.cause.faults_later is.fault in
    let still = read_nothing told before after (g.C.Stream.faults old.stream) later old.stage old.part old.request old.octets c.read_behind.new.octets old.made old.sent old.answered old.abandoned old.abandoned c.in_ok-got.got c.requires c.in_ok-got.ensures.octets
    (c.in_ok-got.ensures.octets.count ∙ ap given c.in-End.is) fault is in
    let at_end = end_read before after old.octets c.read_behind.new.octets (subst (λ (answer : Got). ReadsBehind before after old.octets c.read_behind.new.octets answer) c.in-End.is c.in_ok-got.ensures.octets) in
    c.take_end.ensures.stands told still.rest still.reading at_end c.requires still.between

pub returns-in_ok-take_octets-in-Bytes-clause-stands : goal.returns-in_ok-take_octets-in-Bytes-clause-stands
returns-in_ok-take_octets-in-Bytes-clause-stands g c told is =
    let old = c.args.self.now in
    let before = g.C.Stream.told old.stream in
    let after = g.C.Stream.told c.read_behind.new.stream in
    let later = g.C.Stream.faults c.read_behind.new.stream in
    let on = read_on_bytes told before after (g.C.Stream.faults old.stream) later old.stage old.part old.request old.octets c.read_behind.new.octets old.made old.sent old.answered old.abandoned c.in_ok-got.got c.requires c.in_ok-got.ensures.octets
    c.in_ok-got.ensures.cause.faults_later is in
    let here = subst (λ (from : ℕ). IsReadOn told after later old.part from c.read_behind.new.octets old.made old.sent old.answered old.abandoned) (sym c.len-from.ensures) on in
    c.take_octets.ensures.stands told here.rest here.reading here.between

pub returns-in_ok-take_end-in-End-clause-stands : goal.returns-in_ok-take_end-in-End-clause-stands
returns-in_ok-take_end-in-End-clause-stands g c told is =
    let old = c.args.self.now in
    let before = g.C.Stream.told old.stream in
    let after = g.C.Stream.told c.read_behind.new.stream in
    let later = g.C.Stream.faults c.read_behind.new.stream in
    let fault = later_fault old.abandoned (g.C.Stream.faults old.stream) later c.in_ok-got.ensures.cause.faults_later is.fault in
    let still = read_nothing told before after (g.C.Stream.faults old.stream) later old.stage old.part old.request old.octets c.read_behind.new.octets old.made old.sent old.answered old.abandoned old.abandoned c.in_ok-got.got c.requires c.in_ok-got.ensures.octets
    (c.in_ok-got.ensures.octets.count ∙ ap given c.in-End.is) fault is in
    let at_end = end_read before after old.octets c.read_behind.new.octets (subst (λ (answer : Got). ReadsBehind before after old.octets c.read_behind.new.octets answer) c.in-End.is c.in_ok-got.ensures.octets) in
    c.take_end.ensures.stands told still.rest still.reading at_end c.requires still.between
