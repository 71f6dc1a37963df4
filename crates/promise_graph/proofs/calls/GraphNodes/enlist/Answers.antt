use Rattle.promise_nodes.specs.Members.{lists_in}
use Rattle.promise_graph.proofs.Frames.{lists_seen, lists_still}
use Rattle.promise_graph.proofs.Following.{stands_for}
use Rattle.promise_graph.proofs.Marked.{stands_seen}
use Rattle.promise_graph.proofs.calls.GraphNodes.enlist.Goals as goal

pub returns-clause-stands : goal.returns-clause-stands
returns-clause-stands g c w st live new = record {
  nodes = stands_for _ _ _ _ _ c.enlist.ensures.kept.sound.numbered (c.enlist.ensures.stands w (stands_seen g.St.Store.node_at g.Q.Queue.events g.St.Store.stands _ _ w c.self.view_is st.nodes.stands) live new);
  lists = lists_still c.self.inside.fields.marks c.enlist.new.g.marks c.self.inside.memberships (lists_in w) c.enlist.ensures.numbers c.enlist.ensures.falls.slots_are c.enlist.ensures.falls.next_is (lists_seen _ _ (lists_in w) c.self.view_is st.lists);
}
