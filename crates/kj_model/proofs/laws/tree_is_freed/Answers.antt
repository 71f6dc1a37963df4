use Rattle.kj_model.proofs.Freed.{tree_freed}
use Rattle.kj_model.proofs.Spared.{tree_freed_by}
use Rattle.kj_model.proofs.Falling.{node_falls}
use Rattle.kj_model.proofs.laws.tree_is_freed.Goals as goal

pub returns-clause-closing : goal.returns-clause-closing
returns-clause-closing c = tree_freed

pub returns-clause-guarded : goal.returns-clause-guarded
returns-clause-guarded c = tree_freed_by

pub returns-clause-whole : goal.returns-clause-whole
returns-clause-whole c = node_falls
