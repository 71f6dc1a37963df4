use Rattle.std.proofs.Common.{Bool, sym, subst}
use Rattle.std.specs.Prelude.{IfSome}
use Rattle.http_stream.specs.Stages.{is_closing}
use Rattle.http_stream.specs.Served.{EndsSo}
use Rattle.http_stream.proofs.EndLemmas.{ends_so, passed_end}
use Rattle.http_stream.proofs.connection.StreamConnection.finish.Goals as goal

pub returns-clause-keeps : goal.returns-clause-keeps
returns-clause-keeps g c told is =
    let old = c.args.self in
    let stream = g.C.Stream.told old.stream in
    record {
      texts =
          subst (λ (b : Bool). IfSome told (λ f. EndsSo old.abandoned c.is_drained-drained.result b f stream old.octets c.truncate.new.self old.answered)) (sym c.is_closing-closes.ensures)
          (subst (λ (b : Bool). IfSome told (λ f. EndsSo old.abandoned b (is_closing old.stage) f stream old.octets c.truncate.new.self old.answered)) (sym c.is_drained-drained.ensures)
          (ends_so told stream (g.C.Stream.faults old.stream) old.stage old.part old.request old.octets old.made c.truncate.new.self old.sent old.answered old.abandoned c.requires c.truncate.ensures is));
      passed = passed_end stream old.stage old.octets old.made c.truncate.new.self old.sent c.truncate.ensures is.passed;
      fault = is.fault;
    }
