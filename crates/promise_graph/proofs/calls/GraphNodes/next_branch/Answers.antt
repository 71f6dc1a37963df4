use Rattle.promise_graph.proofs.Marked.{stands_seen}
use Rattle.promise_graph.proofs.calls.GraphNodes.next_branch.Goals as goal

pub returns : goal.returns
returns g c w hub front back st same = c.next_branch.ensures w hub front back (stands_seen g.St.Store.node_at g.Q.Queue.events g.St.Store.stands _ _ w c.self.view_is st.nodes.stands) same
