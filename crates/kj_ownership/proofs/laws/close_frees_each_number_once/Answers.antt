use Rattle.kj_ownership.proofs.Closing.{close_frees_all}
use Rattle.kj_ownership.proofs.Cancels.{close_answers}
use Rattle.kj_ownership.proofs.Sizes.{close_few}
use Rattle.kj_ownership.proofs.laws.close_frees_each_number_once.Goals as goal

pub returns-clause-once : goal.returns-clause-once
returns-clause-once c = λ s o waits m. (close_frees_all s o waits).once m

pub returns-clause-answer : goal.returns-clause-answer
returns-clause-answer c = close_answers

pub returns-clause-few : goal.returns-clause-few
returns-clause-few c = close_few

pub returns-clause-none : goal.returns-clause-none
returns-clause-none c = λ s o waits m. (close_frees_all s o waits).none m

pub returns-clause-owned : goal.returns-clause-owned
returns-clause-owned c = λ s o waits. (close_frees_all s o waits).owned
