use Rattle.std.proofs.Common.{◌≡◌, ◌-◌, ◌++◌}
use Rattle.conn_record.specs.Records.{conns_text, record_text}
use Rattle.conn_record.specs.Generator.{connections, generated}
use Rattle.conn_record.proofs.generated.make_recording.Given as goal

abbrev pub invariant-loop-conn : goal.invariant-loop-conn
invariant-loop-conn l =
    l.out ++ conns_text (connections l.conn (l.conns - l.conn) l.requests l.generator.state) ≡ record_text (generated l.fn.number l.conns l.requests)
