-- Each log is what the definitions compute.
use Rattle.std.specs.Prelude.{refl}
use Rattle.std.specs.Fmt.{digits}
use Rattle.kj_model.specs.Free.{free_to}
use Rattle.kj_model.specs.Value.{value_to}
use Rattle.kj_model.proofs.order.chains_take_promises.Goals as goal

pub returns-clause-promise_loop : goal.returns-clause-promise_loop
unfolding digits free_to value_to
returns-clause-promise_loop c = refl

pub returns-clause-promise_needs_a_chain : goal.returns-clause-promise_needs_a_chain
unfolding digits free_to value_to
returns-clause-promise_needs_a_chain c = refl

pub returns-clause-chain_ready_in_place : goal.returns-clause-chain_ready_in_place
unfolding digits free_to value_to
returns-clause-chain_ready_in_place c = refl
