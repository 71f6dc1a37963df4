-- Each is what the definitions compute.
use Rattle.std.specs.Prelude.{refl}
use Rattle.std.specs.Fmt.{digits}
use Rattle.kj_model.specs.Free.{free_to}
use Rattle.kj_model.specs.Value.{value_to}
use Rattle.kj_corners.proofs.arenas.order_scripts_have_their_logs.Goals as goal

pub returns-clause-run_makes_turns : goal.returns-clause-run_makes_turns
unfolding digits free_to value_to
returns-clause-run_makes_turns c = refl

pub returns-clause-settled_goes_ahead : goal.returns-clause-settled_goes_ahead
unfolding digits free_to value_to
returns-clause-settled_goes_ahead c = refl

pub returns-clause-settled_in_order : goal.returns-clause-settled_in_order
unfolding digits free_to value_to
returns-clause-settled_in_order c = refl

pub returns-clause-reply_stands_behind : goal.returns-clause-reply_stands_behind
unfolding digits free_to value_to
returns-clause-reply_stands_behind c = refl

pub returns-clause-wait_moves_no_point : goal.returns-clause-wait_moves_no_point
unfolding digits free_to value_to
returns-clause-wait_moves_no_point c = refl

pub returns-clause-last_in_reverse : goal.returns-clause-last_in_reverse
unfolding digits free_to value_to
returns-clause-last_in_reverse c = refl

pub returns-clause-chain_over_last : goal.returns-clause-chain_over_last
unfolding digits free_to value_to
returns-clause-chain_over_last c = refl

pub returns-clause-last_in_a_race : goal.returns-clause-last_in_a_race
unfolding digits free_to value_to
returns-clause-last_in_a_race c = refl

pub returns-clause-promise_loop : goal.returns-clause-promise_loop
unfolding digits free_to value_to
returns-clause-promise_loop c = refl

pub returns-clause-promise_needs_a_chain : goal.returns-clause-promise_needs_a_chain
unfolding digits free_to value_to
returns-clause-promise_needs_a_chain c = refl

pub returns-clause-chain_ready_in_place : goal.returns-clause-chain_ready_in_place
unfolding digits free_to value_to
returns-clause-chain_ready_in_place c = refl

pub returns-clause-bodies_by_run : goal.returns-clause-bodies_by_run
unfolding digits free_to value_to
returns-clause-bodies_by_run c = refl

pub returns-clause-dropped_fulfiller : goal.returns-clause-dropped_fulfiller
unfolding digits free_to value_to
returns-clause-dropped_fulfiller c = refl

pub returns-clause-exception_passes : goal.returns-clause-exception_passes
unfolding digits free_to value_to
returns-clause-exception_passes c = refl

pub returns-clause-eager_keeps : goal.returns-clause-eager_keeps
unfolding digits free_to value_to
returns-clause-eager_keeps c = refl

pub returns-clause-settled_once : goal.returns-clause-settled_once
unfolding digits free_to value_to
returns-clause-settled_once c = refl
