-- Each log is what the definitions compute.
use Rattle.std.specs.Prelude.{refl}
use Rattle.std.specs.Fmt.{digits}
use Rattle.kj_model.specs.Free.{free_to}
use Rattle.kj_model.specs.Value.{value_to}
use Rattle.kj_model.proofs.sharing.races_have_one_winner.Goals as goal

pub returns-clause-loser_is_disarmed : goal.returns-clause-loser_is_disarmed
unfolding digits free_to value_to
returns-clause-loser_is_disarmed c = refl

pub returns-clause-loser_fires_without_effect : goal.returns-clause-loser_fires_without_effect
unfolding digits free_to value_to
returns-clause-loser_fires_without_effect c = refl

pub returns-clause-loser_takes_the_hub : goal.returns-clause-loser_takes_the_hub
unfolding digits free_to value_to
returns-clause-loser_takes_the_hub c = refl
