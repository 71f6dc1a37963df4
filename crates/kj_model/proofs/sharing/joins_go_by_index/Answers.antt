-- Each log is what the definitions compute.
use Rattle.std.specs.Prelude.{refl}
use Rattle.std.specs.Fmt.{digits}
use Rattle.kj_model.specs.Free.{free_to}
use Rattle.kj_model.specs.Value.{value_to}
use Rattle.kj_model.proofs.sharing.joins_go_by_index.Goals as goal

pub returns-clause-all_in_order : goal.returns-clause-all_in_order
unfolding digits free_to value_to
returns-clause-all_in_order c = refl

pub returns-clause-all_ends_every_part : goal.returns-clause-all_ends_every_part
unfolding digits free_to value_to
returns-clause-all_ends_every_part c = refl

pub returns-clause-fast_ends_early : goal.returns-clause-fast_ends_early
unfolding digits free_to value_to
returns-clause-fast_ends_early c = refl

pub returns-clause-fast_goes_on : goal.returns-clause-fast_goes_on
unfolding digits free_to value_to
returns-clause-fast_goes_on c = refl

pub returns-clause-too_many_words : goal.returns-clause-too_many_words
unfolding digits free_to value_to
returns-clause-too_many_words c = refl

pub returns-clause-joins_of_none : goal.returns-clause-joins_of_none
unfolding digits free_to value_to
returns-clause-joins_of_none c = refl
