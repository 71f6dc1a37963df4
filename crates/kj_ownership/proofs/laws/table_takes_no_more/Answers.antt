use Rattle.kj_ownership.proofs.Answers.{table_takes}
use Rattle.kj_ownership.proofs.laws.table_takes_no_more.Goals as goal

pub returns : goal.returns
returns c = table_takes
