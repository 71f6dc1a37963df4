use Rattle.kj_ownership.proofs.Applied.{apply_went}
use Rattle.kj_ownership.proofs.laws.commands_keep_worlds.Goals as goal

pub returns-clause-owned : goal.returns-clause-owned
returns-clause-owned g = λ setting inside c s fits o sh. (apply_went setting inside c s fits o sh).standing

pub returns-clause-shaped : goal.returns-clause-shaped
returns-clause-shaped g = λ setting inside c s fits o sh. (apply_went setting inside c s fits o sh).shaped
