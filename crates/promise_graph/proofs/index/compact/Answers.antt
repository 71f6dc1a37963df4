use Rattle.std.proofs.Common.{rules}
use Rattle.std.proofs.lemmas.Fn.{filter_same}
use Rattle.promise_graph.specs.Slots.{is_current}
use Rattle.promise_graph.proofs.index.compact.Goals as goal

pub returns-clause-items : goal.returns-clause-items
returns-clause-items c = filter_same _ (is_current c.args.numbers.now.items) _ (λ x b f' k. search rules) _ _ c.retain.ensures.filtered
