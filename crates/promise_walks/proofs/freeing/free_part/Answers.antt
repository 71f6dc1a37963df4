use Rattle.std.proofs.Common.{◌∙◌, sym, ap, ℕ, ◌+◌, Option}
use Rattle.std.specs.Prelude.{option_to_list}
use Rattle.kj_model.specs.Free.{Holding, free_to}
use Rattle.kj_model.specs.Value.{freed}
use Rattle.promise_nodes.specs.Shown.{link_number}
use Rattle.promise_walks.proofs.Composed.{does_from}
use Rattle.promise_walks.proofs.freeing.free_part.Goals as goal

pub returns-clause-does : goal.returns-clause-does
returns-clause-does g c =
    let n = c.args.root.number.0 in
    let d = g.N.Nodes.slots c.args.nodes.now + 1 in
    let firing = c.firing.result in
    does_from _ _ (free_to (Holding (option_to_list (link_number firing))) d n) (freed n) (λ s. s) _ _
    (λ s stands. ap (λ (k : ℕ). free_to (Holding (option_to_list (link_number firing))) (k + 1) n s) (sym (g.met.N.Nodes.slots_are c.args.nodes.now s.world stands.0))
    ∙ ap (λ (o : Option ℕ). free_to (Holding (option_to_list o)) (s.world.limits.slots + 1) n s) (sym (c.firing.ensures s.world stands.0)))
    c.free_tree.ensures.does
