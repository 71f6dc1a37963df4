-- An input that is no recording, or memory that runs out as it is read.
use Rattle.std.proofs.Common.{◌≡◌, ◌∙◌, List, ℕ, sym, ap, subst}
use Rattle.conn_record.specs.Refused.{IsRefusal}
use Rattle.kj_serve.specs.Outside.{Outside, outside_of}
use Rattle.kj_serve.specs.Replay.{ReplayEnds, answers_of}
use Rattle.kj_serve.proofs.BadRecord.{bad_ends, bad_is, memory_ends}
use Rattle.kj_serve.proofs.replay.replay_command.Goals as goal
use Rattle.kj_serve.proofs.replay.replay_command.Goals.{in-Some, in-None}

pub returns-in-Err-clause-ends : goal.returns-in-Err-clause-ends
returns-in-Err-clause-ends g c =
    let w = c.in-Whole.ensures in
    let octets = c.in-Whole.octets in
    let f = answers_of c.args.service in
    let before : Outside = outside_of g.I.Source.left g.I.Source.faults g.O.Sink.taken g.O.Sink.faults c.args.input.now c.args.output.now in
    let left = g.I.Source.left c.read_whole.new.source in
    let reads = g.I.Source.faults c.read_whole.new.source in
    let last : Outside = record { left = left; reads = reads; taken = g.O.Sink.taken c.match-whole_in.output; writes = g.O.Sink.faults c.match-whole_in.output } in
    let refused : IsRefusal octets c.in-Err.refused = subst (λ (x : List ℕ). IsRefusal x c.in-Err.refused) c.as_slice.ensures c.in-Err.ensures.refused in
    elim c.match-whole_in.branch [
      | in-Some v ↦
          let e = v.write_numbered.ensures in
          let bad = bad_is octets c.in-Err.refused v.in-Some.whole refused (sym c.whole_in.ensures ∙ v.in-Some.is) in
          let there : Outside = record { left = left; reads = reads; taken = g.O.Sink.taken v.write_numbered.new.output; writes = g.O.Sink.faults v.write_numbered.new.output } in
          let same : there ≡ last = λ i. record { left = left; reads = reads; taken = g.O.Sink.taken (sym v.output-is i); writes = g.O.Sink.faults (sym v.output-is i) } in
          let ends : ReplayEnds f v.write_numbered.result before there = bad_ends f v.write_numbered.result v.in-Some.whole before there octets (record { read = w.0; at_end = w.1; short = w.2 }) bad.0 bad.1 e.done (λ four. (e.cause four, e.front four)) e.no_memory e.statuses in
          subst (λ (n : ℕ). ReplayEnds f n before last) (sym v.result-is) (subst (λ (o : Outside). ReplayEnds f v.write_numbered.result before o) same ends)
      | in-None v ↦ memory_ends f c.match-whole_in.result before last v.result-is (ap g.O.Sink.taken v.output-is)
    ]
