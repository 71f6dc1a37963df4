-- Each log is what the definitions compute.
use Rattle.std.specs.Prelude.{refl}
use Rattle.std.specs.Fmt.{digits}
use Rattle.kj_model.specs.Free.{free_to}
use Rattle.kj_model.specs.Value.{value_to}
use Rattle.kj_model.proofs.order.turns_take_events_in_order.Goals as goal

pub returns-clause-dependency_goes_first : goal.returns-clause-dependency_goes_first
unfolding digits free_to value_to
returns-clause-dependency_goes_first c = refl

pub returns-clause-armed_in_order : goal.returns-clause-armed_in_order
unfolding digits free_to value_to
returns-clause-armed_in_order c = refl

pub returns-clause-run_makes_turns : goal.returns-clause-run_makes_turns
unfolding digits free_to value_to
returns-clause-run_makes_turns c = refl
