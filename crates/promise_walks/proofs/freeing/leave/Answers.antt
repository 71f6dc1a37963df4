use Rattle.std.proofs.Common.{subst, sym}
use Rattle.promise_names.specs.declared.names.Leaving.{Leaving}
use Rattle.promise_names.specs.declared.names.Leaving.TheVariants.{Cell as CellLeaves}
use Rattle.promise_names.specs.Held.{left_world}
use Rattle.promise_walks.proofs.Left.{cell_lists, left_nodes}
use Rattle.promise_walks.proofs.freeing.leave.Goals as goal

pub returns-in-Cell-clause-stands : goal.returns-in-Cell-clause-stands
returns-in-Cell-clause-stands g c w stands =
    let n = c.args.node.number.0 in
    let nodes = c.args.nodes.now in
    subst (λ (l : Leaving). g.N.Nodes.stands nodes (left_world n l w)) (sym c.in-Cell.is)
    (g.met.N.Nodes.names_free nodes w (left_world n CellLeaves w) (left_nodes n CellLeaves w) (cell_lists n w) stands.0)
