use Rattle.promise_nodes.specs.Members.{lists_in}
use Rattle.promise_nodes.proofs.Same.{without_branch_names, names_lists}
use Rattle.promise_graph.specs.Laws.{same_lists}
use Rattle.promise_graph.proofs.Frames.{lists_seen, lists_still}
use Rattle.promise_graph.proofs.Following.{stands_for}
use Rattle.promise_graph.proofs.Marked.{stands_seen}
use Rattle.promise_graph.proofs.calls.GraphNodes.leave_hub.Goals as goal

pub returns-clause-stands : goal.returns-clause-stands
returns-clause-stands g c w st is = record {
  nodes = stands_for _ _ _ _ _ c.leave_hub.ensures.kept.sound.numbered (c.leave_hub.ensures.stands w (stands_seen g.St.Store.node_at g.Q.Queue.events g.St.Store.stands _ _ w c.self.view_is st.nodes.stands) is);
  lists = same_lists c.leave_hub.new.g.marks c.self.inside.memberships (lists_in w) _ (names_lists w _ (without_branch_names c.args.branch.number.0 c.args.hub.number.0 w))
      (lists_still c.self.inside.fields.marks c.leave_hub.new.g.marks c.self.inside.memberships (lists_in w) c.leave_hub.ensures.numbers c.leave_hub.ensures.falls.slots_are c.leave_hub.ensures.falls.next_is (lists_seen _ _ (lists_in w) c.self.view_is st.lists));
}
