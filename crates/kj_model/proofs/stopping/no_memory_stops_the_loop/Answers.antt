-- Records and replies are what the definitions compute.
use Rattle.std.specs.Prelude.{refl}
use Rattle.kj_model.specs.Free.{free_to}
use Rattle.kj_model.specs.Value.{value_to}
use Rattle.kj_model.proofs.stopping.no_memory_stops_the_loop.Goals as goal

pub returns-clause-in_a_turn : goal.returns-clause-in_a_turn
unfolding free_to value_to
returns-clause-in_a_turn c = refl

pub returns-clause-in_a_wait : goal.returns-clause-in_a_wait
unfolding free_to value_to
returns-clause-in_a_wait c = refl
