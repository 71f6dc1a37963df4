use Rattle.promise_nodes.specs.Members.{lists_in, without_member}
use Rattle.promise_graph.specs.Laws.{nodes_free, same_lists}
use Rattle.promise_graph.proofs.Frames.{lists_seen}
use Rattle.promise_graph.proofs.Marked.{nodes_seen}
use Rattle.promise_graph.proofs.calls.GraphNodes.leave_list.Goals as goal

pub returns-clause-stands : goal.returns-clause-stands
returns-clause-stands g c w v st same are =
    let fields = c.self.inside.fields in
    let at = g.St.Store.node_at fields.store in
    let seen = nodes_seen g.St.Store.node_at g.Q.Queue.events g.St.Store.stands _ _ w c.self.view_is st.nodes in
    record {
      nodes = nodes_free at (g.Q.Queue.events fields.queue) (g.St.Store.stands fields.store) fields.marks w v same seen;
      lists = same_lists fields.marks c.leave_list.new.x (without_member c.args.list.0 c.args.node.number.0 (lists_in w)) (lists_in v) are (c.leave_list.ensures.members (lists_in w) (lists_seen _ _ (lists_in w) c.self.view_is st.lists));
    }
