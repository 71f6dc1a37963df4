use Rattle.std.proofs.Common.{refl}
use Rattle.kj_model.specs.Free.{free_to}
use Rattle.kj_model.specs.Value.{value_to}
use Rattle.kj_paths.proofs.laws.a_promise_comes_with_its_path.Goals as goal

pub returns-clause-before : goal.returns-clause-before
unfolding free_to value_to
returns-clause-before c = refl

pub returns-clause-after : goal.returns-clause-after
unfolding free_to value_to
returns-clause-after c = refl
