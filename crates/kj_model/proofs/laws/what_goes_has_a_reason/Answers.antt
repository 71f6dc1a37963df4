use Rattle.kj_model.proofs.Ordered.{only_tree, every_tree}
use Rattle.kj_model.proofs.Reasons.{reasons}
use Rattle.kj_model.proofs.laws.what_goes_has_a_reason.Goals as goal

pub returns-clause-tree : goal.returns-clause-tree
returns-clause-tree c = only_tree

pub returns-clause-closing : goal.returns-clause-closing
returns-clause-closing c = every_tree

pub returns-clause-reasons : goal.returns-clause-reasons
returns-clause-reasons c = reasons
