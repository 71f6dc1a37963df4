-- Each log is what the definitions compute.
use Rattle.std.specs.Prelude.{refl}
use Rattle.std.specs.Fmt.{digits}
use Rattle.kj_model.specs.Free.{free_to}
use Rattle.kj_model.specs.Value.{value_to}
use Rattle.kj_model.proofs.order.last_events_go_last.Goals as goal

pub returns-clause-last_in_reverse : goal.returns-clause-last_in_reverse
unfolding digits free_to value_to
returns-clause-last_in_reverse c = refl

pub returns-clause-chain_over_last : goal.returns-clause-chain_over_last
unfolding digits free_to value_to
returns-clause-chain_over_last c = refl

pub returns-clause-last_in_a_race : goal.returns-clause-last_in_a_race
unfolding digits free_to value_to
returns-clause-last_in_a_race c = refl
