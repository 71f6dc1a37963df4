use Rattle.executor_core.specs.Histories.{fresh}
use Rattle.executor_core.proofs.Legal.{legal_prefix}
use Rattle.executor_core.proofs.laws.beginnings_are_legal.Goals as goal

pub returns : goal.returns
returns c = λ limit es fs l. legal_prefix (fresh limit) es fs l
