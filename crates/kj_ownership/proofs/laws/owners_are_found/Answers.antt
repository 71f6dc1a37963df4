use Rattle.kj_ownership.proofs.Sides.{owner_is}
use Rattle.kj_ownership.proofs.laws.owners_are_found.Goals as goal

pub returns-clause-form : goal.returns-clause-form
returns-clause-form c = λ n owner s o h. (owner_is n owner s o.recorded h).0

pub returns-clause-owns : goal.returns-clause-owns
returns-clause-owns c = λ n owner s o h. (owner_is n owner s o.recorded h).1
