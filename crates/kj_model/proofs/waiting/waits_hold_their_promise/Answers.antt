-- Each log is what the definitions compute.
use Rattle.std.specs.Prelude.{refl}
use Rattle.std.specs.Fmt.{digits}
use Rattle.kj_model.specs.Free.{free_to}
use Rattle.kj_model.specs.Value.{value_to}
use Rattle.kj_model.proofs.waiting.waits_hold_their_promise.Goals as goal

pub returns-clause-name_taken_meanwhile : goal.returns-clause-name_taken_meanwhile
unfolding digits free_to value_to
returns-clause-name_taken_meanwhile c = refl

pub returns-clause-name_counts_meanwhile : goal.returns-clause-name_counts_meanwhile
unfolding digits free_to value_to
returns-clause-name_counts_meanwhile c = refl

pub returns-clause-awaited_again : goal.returns-clause-awaited_again
unfolding digits free_to value_to
returns-clause-awaited_again c = refl
