use Rattle.kj_ownership.proofs.Commands.{free_loose}
use Rattle.kj_ownership.proofs.laws.free_keeps_what_worlds_keep.Goals as goal

pub returns : goal.returns
returns c = free_loose
