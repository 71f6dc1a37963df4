use Rattle.promise_nodes.specs.Members.{lists_in}
use Rattle.promise_graph.proofs.Frames.{lists_seen, given_of}
use Rattle.promise_graph.proofs.Marked.{stands_seen}
use Rattle.promise_graph.proofs.calls.GraphNodes.list_of.Goals as goal

pub returns : goal.returns
returns g c w st live =
    let fields = c.self.inside.fields in
    let at = g.St.Store.node_at fields.store in
    let k = c.self.invariant.0.sound.numbered in
    let seen = stands_seen g.St.Store.node_at g.Q.Queue.events g.St.Store.stands _ _ w c.self.view_is st.nodes.stands in
    c.list_of.ensures (lists_in w) (lists_seen _ _ (lists_in w) c.self.view_is st.lists) (given_of at fields.marks k w seen.seen.nodes c.args.node.number.0 live)
