-- The loop is new, by the script's limits or the usual ones.
use Rattle.std.proofs.Common.{◌∙◌, ap, subst}
use Rattle.kj_base.specs.declared.numbers.Limits.{Limits}
use Rattle.kj_model.specs.Log.{limits_or}
use Rattle.kj_model.specs.World.{new_state}
use Rattle.loop_core.specs.Loops.{StandsAt}
use Rattle.name_table.specs.Table.{Stands as NamesStand}
use Rattle.node_arena.specs.Arenas.{node_of, Stands as ArenasStand}
use Rattle.node_arena.specs.Needs.{places_fit}
use Rattle.promise_graph.specs.Standing.{StandsFor}
use Rattle.kj_script.proofs.run.run_script.Goals as goal

pub run_on-requires : goal.run_on-requires
run_on-requires c =
    let over = c.in_ok-over.over in
    subst (λ (l : Limits). StandsAt places_fit (StandsFor (node_of over.nodes.store) over.nodes.queue.events (ArenasStand over.nodes.store) over.nodes.marks over.nodes.memberships) (NamesStand over.names) (new_state l))
    (c.limits_of.ensures.limits ∙ ap limits_or c.limits.ensures) c.in_ok-over.ensures
