use Rattle.conn_record.proofs.RecordLemmas.{one_text, short_all}
use Rattle.conn_record.proofs.read.one_recording.Goals as goal

pub returns : goal.returns
returns c a b small fits same = one_text a b (short_all a small) (short_all b fits) same
