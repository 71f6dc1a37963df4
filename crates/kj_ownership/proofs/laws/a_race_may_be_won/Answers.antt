use Rattle.kj_ownership.proofs.Winning.{may_win}
use Rattle.kj_ownership.proofs.laws.a_race_may_be_won.Goals as goal

pub returns : goal.returns
returns c = may_win
