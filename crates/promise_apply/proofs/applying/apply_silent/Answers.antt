use Rattle.std.proofs.Common.{subst}
use Rattle.promise_apply.specs.Applying.{IsSilent}
use Rattle.promise_apply.proofs.applying.apply_silent.Goals as goal

pub returns-in-Drop-clause-applied : goal.returns-in-Drop-clause-applied
returns-in-Drop-clause-applied g c = absurd (subst IsSilent c.in-Drop.is c.requires.silent)

pub returns-in-Clear-clause-applied : goal.returns-in-Clear-clause-applied
returns-in-Clear-clause-applied g c = absurd (subst IsSilent c.in-Clear.is c.requires.silent)
