use Rattle.std.proofs.Common.{◌≡◌, ◌++◌, take}
use Rattle.conn_record.specs.Records.{conns_text}
use Rattle.conn_record.proofs.print.push_conns.Given as goal

abbrev pub invariant-loop-conn : goal.invariant-loop-conn
invariant-loop-conn l = l.out ≡ l.fn.out ++ conns_text (take l.conn-index l.conns)
