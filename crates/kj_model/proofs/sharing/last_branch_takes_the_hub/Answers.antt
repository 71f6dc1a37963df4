-- What goes is what the definitions compute.
use Rattle.std.specs.Prelude.{refl}
use Rattle.kj_model.specs.Falling.{falling}
use Rattle.kj_model.specs.Free.{free_to}
use Rattle.kj_model.proofs.sharing.last_branch_takes_the_hub.Goals as goal

pub returns-clause-first : goal.returns-clause-first
unfolding free_to
returns-clause-first c = refl

pub returns-clause-both : goal.returns-clause-both
unfolding free_to
returns-clause-both c = refl

pub returns-clause-kept : goal.returns-clause-kept
unfolding free_to
returns-clause-kept c = refl

pub returns-clause-both_fall : goal.returns-clause-both_fall
unfolding falling
returns-clause-both_fall c = refl

pub returns-clause-kept_stays : goal.returns-clause-kept_stays
unfolding falling
returns-clause-kept_stays c = refl
