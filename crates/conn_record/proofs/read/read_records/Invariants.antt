use Rattle.std.proofs.Common.{◌≡◌, ◌≤◌, ◌++◌, length}
use Rattle.conn_record.specs.Records.{record_text}
use Rattle.conn_record.specs.declared.read.TheConstants.{MAX_CONNS}
use Rattle.conn_record.proofs.read.read_records.Given as goal

abbrev pub invariant-loop-rest : goal.invariant-loop-rest
invariant-loop-rest l = record {
  few : length l.records ≤ MAX_CONNS;
  text : l.fn.bytes ≡ record_text l.records ++ l.rest;
}

abbrev pub decreases-loop-rest : goal.decreases-loop-rest
decreases-loop-rest l = length l.rest
