-- A line is read as one meaning.
use Rattle.promise_script.proofs.Meanings.{one_meaning}
use Rattle.promise_script.proofs.laws.one_line.Goals as goal

pub returns : goal.returns
returns c = one_meaning
