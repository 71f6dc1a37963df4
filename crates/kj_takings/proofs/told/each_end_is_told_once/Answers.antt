use Rattle.kj_takings.proofs.ToldLoops.{ends_once}
use Rattle.kj_takings.proofs.told.each_end_is_told_once.Goals as goal

pub returns : goal.returns
returns c = ends_once
