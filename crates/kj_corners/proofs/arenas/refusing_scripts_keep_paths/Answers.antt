-- Each is what the definitions compute.
use Rattle.std.specs.Prelude.{refl}
use Rattle.kj_model.specs.Free.{free_to}
use Rattle.kj_model.specs.Trees.{tree_numbers}
use Rattle.kj_model.specs.Value.{value_to}
use Rattle.kj_corners.proofs.arenas.refusing_scripts_keep_paths.Goals as goal

pub returns-clause-named_twice : goal.returns-clause-named_twice
unfolding free_to tree_numbers value_to
returns-clause-named_twice c = refl

pub returns-clause-order_of_causes : goal.returns-clause-order_of_causes
unfolding free_to tree_numbers value_to
returns-clause-order_of_causes c = refl

pub returns-clause-outside_alone : goal.returns-clause-outside_alone
unfolding free_to tree_numbers value_to
returns-clause-outside_alone c = refl

pub returns-clause-refused_in_a_step : goal.returns-clause-refused_in_a_step
unfolding free_to tree_numbers value_to
returns-clause-refused_in_a_step c = refl

pub returns-clause-path_of_eight : goal.returns-clause-path_of_eight
unfolding free_to tree_numbers value_to
returns-clause-path_of_eight c = refl

pub returns-clause-path_of_nine : goal.returns-clause-path_of_nine
unfolding free_to tree_numbers value_to
returns-clause-path_of_nine c = refl

pub returns-clause-two_leaves_in_arenas : goal.returns-clause-two_leaves_in_arenas
unfolding free_to tree_numbers value_to
returns-clause-two_leaves_in_arenas c = refl

pub returns-clause-request_in_one_arena : goal.returns-clause-request_in_one_arena
unfolding free_to tree_numbers value_to
returns-clause-request_in_one_arena c = refl

pub returns-clause-no_place_twice : goal.returns-clause-no_place_twice
unfolding free_to tree_numbers value_to
returns-clause-no_place_twice c = refl

pub returns-clause-chain_over_the_first_place : goal.returns-clause-chain_over_the_first_place
unfolding free_to tree_numbers value_to
returns-clause-chain_over_the_first_place c = refl

pub returns-clause-full_by_places : goal.returns-clause-full_by_places
unfolding free_to tree_numbers value_to
returns-clause-full_by_places c = refl
