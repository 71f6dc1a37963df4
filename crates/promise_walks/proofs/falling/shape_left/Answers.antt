use Rattle.std.proofs.Common.{ap, sym, ◌∙◌, Bool}
use Rattle.kj_model.specs.Nodes.{form_at}
use Rattle.kj_model.specs.Trees.{none_if}
use Rattle.promise_walks.proofs.Fallen.{seen_left}
use Rattle.promise_walks.proofs.falling.shape_left.Goals as goal

pub returns-then-is_gone : goal.returns-then-is_gone
returns-then-is_gone g c w way gone stands marks = ap (λ (b : Bool). none_if b (form_at c.args.node.number.0 w.nodes)) (sym (c.is_gone.ensures way gone marks) ∙ c.if-is_gone.true)

pub returns : goal.returns
returns g c w way gone stands marks = seen_left c.shape_at.result _ _ (sym (c.is_gone.ensures way gone marks) ∙ c.if-is_gone.false) (c.shape_at.ensures.shape w stands)
