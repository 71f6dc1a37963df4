use Rattle.std.proofs.Common.{◌∙◌, ◌+◌, ℕ, [], ap}
use Rattle.kj_model.specs.Nodes.{is_in}
use Rattle.kj_model.specs.Free.{Holding}
use Rattle.kj_model.specs.Falling.{falling}
use Rattle.promise_walks.proofs.falling.would_free.Goals as goal

pub returns-clause-goes : goal.returns-clause-goes
returns-clause-goes g c w stands =
    let first = c.clear_marks.ensures in
    let root = c.args.root.number.0 in
    c.is_gone.ensures [] _ (c.mark_tree.ensures.falls w [] (first.stands w stands) (λ n. first.marks n))
    ∙ ap (λ (slots : ℕ). is_in c.args.node.number.0 (falling (Holding []) w (slots + 1) [] [] root)) first.slots
