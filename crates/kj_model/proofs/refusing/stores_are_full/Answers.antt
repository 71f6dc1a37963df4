-- Each log is what the definitions compute.
use Rattle.std.specs.Prelude.{refl}
use Rattle.std.specs.Fmt.{digits}
use Rattle.kj_model.specs.Free.{free_to}
use Rattle.kj_model.specs.Value.{value_to}
use Rattle.kj_model.proofs.refusing.stores_are_full.Goals as goal

pub returns-clause-path_of_eight : goal.returns-clause-path_of_eight
unfolding digits free_to value_to
returns-clause-path_of_eight c = refl

pub returns-clause-path_of_nine : goal.returns-clause-path_of_nine
unfolding digits free_to value_to
returns-clause-path_of_nine c = refl

pub returns-clause-two_leaves_in_a_table : goal.returns-clause-two_leaves_in_a_table
unfolding digits free_to value_to
returns-clause-two_leaves_in_a_table c = refl

pub returns-clause-two_leaves_in_arenas : goal.returns-clause-two_leaves_in_arenas
unfolding digits free_to value_to
returns-clause-two_leaves_in_arenas c = refl

pub returns-clause-request_in_one_arena : goal.returns-clause-request_in_one_arena
unfolding digits free_to value_to
returns-clause-request_in_one_arena c = refl

pub returns-clause-no_place_twice : goal.returns-clause-no_place_twice
unfolding digits free_to value_to
returns-clause-no_place_twice c = refl

pub returns-clause-chain_over_the_first_place : goal.returns-clause-chain_over_the_first_place
unfolding digits free_to value_to
returns-clause-chain_over_the_first_place c = refl

pub returns-clause-full_by_places : goal.returns-clause-full_by_places
unfolding digits free_to value_to
returns-clause-full_by_places c = refl

pub returns-clause-full_of_names : goal.returns-clause-full_of_names
unfolding digits free_to value_to
returns-clause-full_of_names c = refl
