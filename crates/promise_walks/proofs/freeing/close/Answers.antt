use Rattle.promise_names.specs.Held.{left_world}
use Rattle.promise_walks.proofs.Left.{gone_names}
use Rattle.promise_walks.proofs.freeing.close.Goals as goal

pub returns-clause-stands : goal.returns-clause-stands
returns-clause-stands g c w stands =
    let n = c.args.frame.node.number.0 in
    let v = left_world n c.args.frame.leaving w in (
      c.drop_node.ensures.stands v (c.leave.ensures.stands w stands),
      g.met.M.Names.nodes_free c.left.new.self v _ (gone_names n v) (c.left.ensures.stands w stands.1),
    )
