use Rattle.std.proofs.Common.{◌∙◌, sym}
use Rattle.kj_model.specs.World.{World, held_at}
use Rattle.promise_walks.specs.Walks.{Both}
use Rattle.promise_walks.proofs.Composed.{does_from}
use Rattle.promise_firing.specs.Closed.{set_closed}
use Rattle.promise_walks.proofs.Changing.{does_none}
use Rattle.promise_firing.proofs.Kept.{keeps_same}
use Rattle.promise_firing.proofs.Sets.{sees_other, sees_set}
use Rattle.promise_firing.proofs.closing_sets.close_tasks.Goals as goal

pub close_set-requires-clause-set : goal.close_set-requires-clause-set
close_set-requires-clause-set g c w both = sees_set c.get.result (held_at c.args.name.0 w.names) (c.get.ensures.held w both.1) (sym c.is_set.ensures ∙ c.if-is_set.true)

pub returns-else-is_set-clause-does : goal.returns-else-is_set-clause-does
returns-else-is_set-clause-does g c =
    let name = c.args.name.0 in
    let A : World → Type 0 = Both (g.N.Nodes.stands c.args.nodes.now) (g.M.Names.stands c.args.names.now) in
    does_from A A (λ s. s) (set_closed name) (λ s. s) _ _
    (λ s stands. sym (sees_other c.get.result (held_at name s.world.names) s (c.get.ensures.held s.world stands.1) (sym c.is_set.ensures ∙ c.if-is_set.false))) (does_none A _)
