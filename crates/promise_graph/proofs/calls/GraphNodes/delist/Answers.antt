use Rattle.promise_nodes.specs.Members.{lists_in}
use Rattle.promise_graph.proofs.Frames.{lists_seen, lists_still}
use Rattle.promise_graph.proofs.Following.{stands_for}
use Rattle.promise_graph.proofs.Marked.{stands_seen}
use Rattle.promise_graph.proofs.calls.GraphNodes.delist.Goals as goal

pub returns-clause-stands : goal.returns-clause-stands
returns-clause-stands g c w st = record {
  nodes = stands_for _ _ _ _ _ c.delist.ensures.kept.sound.numbered (c.delist.ensures.stands w (stands_seen g.St.Store.node_at g.Q.Queue.events g.St.Store.stands _ _ w c.self.view_is st.nodes.stands));
  lists = lists_still c.self.inside.fields.marks c.delist.new.g.marks c.self.inside.memberships (lists_in w) c.delist.ensures.numbers c.delist.ensures.falls.slots_are c.delist.ensures.falls.next_is (lists_seen _ _ (lists_in w) c.self.view_is st.lists);
}
