use Rattle.promise_nodes.specs.Members.{lists_in}
use Rattle.promise_graph.proofs.Frames.{lists_seen, lists_still}
use Rattle.promise_graph.proofs.Following.{stands_for}
use Rattle.promise_graph.proofs.Marked.{stands_seen}
use Rattle.promise_graph.proofs.calls.GraphNodes.set_awaited.Goals as goal

pub returns-clause-stands : goal.returns-clause-stands
returns-clause-stands g c w a st same = record {
  nodes = stands_for _ _ _ _ _ c.set_awaited.ensures.kept.sound.numbered (c.set_awaited.ensures.stands w a (stands_seen g.St.Store.node_at g.Q.Queue.events g.St.Store.stands _ _ w c.self.view_is st.nodes.stands) same);
  lists = lists_still c.self.inside.fields.marks c.set_awaited.new.g.marks c.self.inside.memberships (lists_in w) c.set_awaited.ensures.numbers c.set_awaited.ensures.falls.slots_are c.set_awaited.ensures.falls.next_is (lists_seen _ _ (lists_in w) c.self.view_is st.lists);
}
