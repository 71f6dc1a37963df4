-- Each is what the definitions compute.
use Rattle.std.specs.Prelude.{refl}
use Rattle.kj_model.specs.Free.{free_to}
use Rattle.kj_model.specs.Trees.{tree_numbers}
use Rattle.kj_model.specs.Value.{value_to}
use Rattle.kj_corners.proofs.arenas.waiting_scripts_keep_paths.Goals as goal

pub returns-clause-name_taken_meanwhile : goal.returns-clause-name_taken_meanwhile
unfolding free_to tree_numbers value_to
returns-clause-name_taken_meanwhile c = refl

pub returns-clause-name_counts_meanwhile : goal.returns-clause-name_counts_meanwhile
unfolding free_to tree_numbers value_to
returns-clause-name_counts_meanwhile c = refl

pub returns-clause-awaited_again : goal.returns-clause-awaited_again
unfolding free_to tree_numbers value_to
returns-clause-awaited_again c = refl

pub returns-clause-request_ends : goal.returns-clause-request_ends
unfolding free_to tree_numbers value_to
returns-clause-request_ends c = refl

pub returns-clause-request_stopped : goal.returns-clause-request_stopped
unfolding free_to tree_numbers value_to
returns-clause-request_stopped c = refl

pub returns-clause-ask_abandoned : goal.returns-clause-ask_abandoned
unfolding free_to tree_numbers value_to
returns-clause-ask_abandoned c = refl

pub returns-clause-ask_replied : goal.returns-clause-ask_replied
unfolding free_to tree_numbers value_to
returns-clause-ask_replied c = refl

pub returns-clause-abandoned_name_is_free : goal.returns-clause-abandoned_name_is_free
unfolding free_to tree_numbers value_to
returns-clause-abandoned_name_is_free c = refl

pub returns-clause-request_of_a_promise : goal.returns-clause-request_of_a_promise
unfolding free_to tree_numbers value_to
returns-clause-request_of_a_promise c = refl

pub returns-clause-asks_in_order : goal.returns-clause-asks_in_order
unfolding free_to tree_numbers value_to
returns-clause-asks_in_order c = refl

pub returns-clause-ask_dropped_in_its_step : goal.returns-clause-ask_dropped_in_its_step
unfolding free_to tree_numbers value_to
returns-clause-ask_dropped_in_its_step c = refl

pub returns-clause-request_again : goal.returns-clause-request_again
unfolding free_to tree_numbers value_to
returns-clause-request_again c = refl
