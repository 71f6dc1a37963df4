use Rattle.executor_core.specs.Histories.{fresh}
use Rattle.executor_core.proofs.Legal.{all_starts_of_target, all_finishes_of_target, starts_of_target, finishes_of_target}
use Rattle.executor_core.proofs.laws.target_starts_and_finishes.Goals as goal

pub returns-clause-starts : goal.returns-clause-starts
returns-clause-starts c = all_starts_of_target

pub returns-clause-finishes : goal.returns-clause-finishes
returns-clause-finishes c = all_finishes_of_target

pub returns-clause-start : goal.returns-clause-start
returns-clause-start c = λ limit es l n. starts_of_target (fresh limit) es l n

pub returns-clause-finish : goal.returns-clause-finish
returns-clause-finish c = λ limit es l n. finishes_of_target (fresh limit) es l n
