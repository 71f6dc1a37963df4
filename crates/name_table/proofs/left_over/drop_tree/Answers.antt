use Rattle.std.proofs.Common.{rules}
use Rattle.std.proofs.lemmas.Fn.{filter_same}
use Rattle.name_table.specs.Table.{is_other}
use Rattle.name_table.proofs.left_over.drop_tree.Goals as goal

pub returns-clause-items : goal.returns-clause-items
returns-clause-items c = filter_same _ (is_other c.args.tree.number.0) _ (λ x b f' k. search rules) _ _ c.retain.ensures.filtered
