use Rattle.kj_ownership.proofs.Answers.{never_full}
use Rattle.kj_ownership.proofs.laws.no_command_is_full.Goals as goal

pub returns : goal.returns
returns c = never_full
