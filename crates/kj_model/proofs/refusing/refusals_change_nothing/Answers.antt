-- Each log is what the definitions compute.
use Rattle.std.specs.Prelude.{refl}
use Rattle.std.specs.Fmt.{digits}
use Rattle.kj_model.specs.Free.{free_to}
use Rattle.kj_model.specs.Value.{value_to}
use Rattle.kj_model.proofs.refusing.refusals_change_nothing.Goals as goal

pub returns-clause-taken_and_unknown : goal.returns-clause-taken_and_unknown
unfolding digits free_to value_to
returns-clause-taken_and_unknown c = refl

pub returns-clause-named_twice : goal.returns-clause-named_twice
unfolding digits free_to value_to
returns-clause-named_twice c = refl

pub returns-clause-order_of_causes : goal.returns-clause-order_of_causes
unfolding digits free_to value_to
returns-clause-order_of_causes c = refl

pub returns-clause-outside_alone : goal.returns-clause-outside_alone
unfolding digits free_to value_to
returns-clause-outside_alone c = refl

pub returns-clause-refused_in_a_step : goal.returns-clause-refused_in_a_step
unfolding digits free_to value_to
returns-clause-refused_in_a_step c = refl
