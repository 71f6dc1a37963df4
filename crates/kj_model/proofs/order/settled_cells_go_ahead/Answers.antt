-- Each log is what the definitions compute.
use Rattle.std.specs.Prelude.{refl}
use Rattle.std.specs.Fmt.{digits}
use Rattle.kj_model.specs.Free.{free_to}
use Rattle.kj_model.specs.Value.{value_to}
use Rattle.kj_model.proofs.order.settled_cells_go_ahead.Goals as goal

pub returns-clause-settled_goes_ahead : goal.returns-clause-settled_goes_ahead
unfolding digits free_to value_to
returns-clause-settled_goes_ahead c = refl

pub returns-clause-settled_in_order : goal.returns-clause-settled_in_order
unfolding digits free_to value_to
returns-clause-settled_in_order c = refl

pub returns-clause-reply_stands_behind : goal.returns-clause-reply_stands_behind
unfolding digits free_to value_to
returns-clause-reply_stands_behind c = refl

pub returns-clause-wait_moves_no_point : goal.returns-clause-wait_moves_no_point
unfolding digits free_to value_to
returns-clause-wait_moves_no_point c = refl
