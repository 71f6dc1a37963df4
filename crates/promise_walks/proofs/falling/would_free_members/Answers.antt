use Rattle.std.proofs.Common.{◌∙◌, ◌+◌, ℕ, [], ap}
use Rattle.std.specs.Prelude.{reverse}
use Rattle.kj_model.specs.Nodes.{is_in}
use Rattle.kj_model.specs.Free.{Holding}
use Rattle.kj_model.specs.Falling.{falling, each_falling}
use Rattle.promise_nodes.specs.Members.{lists_in}
use Rattle.promise_walks.proofs.falling.would_free_members.Goals as goal

pub returns-clause-goes : goal.returns-clause-goes
returns-clause-goes g c w stands =
    let first = c.clear_marks.ensures in
    let members = reverse (lists_in w c.args.list.0) in
    c.is_gone.ensures [] _ (c.mark_members.ensures.falls w (first.stands w stands) first.marks)
    ∙ ap (λ (slots : ℕ). is_in c.args.node.number.0 (each_falling (falling (Holding []) w (slots + 1) []) [] members)) first.slots
