-- Each octet decides.
use Rattle.conn_record.proofs.Decided.{recording_decided}
use Rattle.conn_record.proofs.read.some_recording.Goals as goal

pub returns : goal.returns
returns c = recording_decided
