use Rattle.promise_nodes.specs.Members.{lists_in}
use Rattle.promise_graph.proofs.Frames.{lists_seen, lists_gone}
use Rattle.promise_graph.proofs.Following.{stands_for}
use Rattle.promise_graph.proofs.Marked.{stands_seen}
use Rattle.promise_graph.proofs.calls.GraphNodes.drop_node.Goals as goal

pub returns-clause-stands : goal.returns-clause-stands
returns-clause-stands g c w st = record {
  nodes = stands_for _ _ _ _ _ c.drop_node.ensures.kept.sound.numbered (c.drop_node.ensures.stands w (stands_seen g.St.Store.node_at g.Q.Queue.events g.St.Store.stands _ _ w c.self.view_is st.nodes.stands));
  lists = lists_gone (g.St.Store.node_at c.self.inside.fields.store) (g.St.Store.node_at c.drop_node.new.g.store) c.self.inside.fields.marks c.drop_node.new.g.marks c.args.node.number.0 c.self.invariant.0.sound.numbered c.drop_node.ensures.kept.sound.numbered c.drop_node.ensures.goes c.leave_any.new.x (lists_in w) c.leave_any.ensures.listed c.drop_node.ensures.falls.slots_are c.drop_node.ensures.falls.next_is (c.leave_any.ensures.members (lists_in w) (lists_seen _ _ (lists_in w) c.self.view_is st.lists));
}
