use Rattle.std.proofs.Common.{[]}
use Rattle.promise_nodes.specs.Shown.{link_number, shown}
use Rattle.promise_nodes.specs.Members.{lists_in}
use Rattle.promise_nodes.proofs.Same.{built_names, names_lists}
use Rattle.promise_graph.specs.Laws.{same_lists}
use Rattle.promise_graph.proofs.Frames.{lists_seen, lists_come}
use Rattle.promise_graph.proofs.Following.{stands_for}
use Rattle.promise_graph.proofs.Marked.{stands_seen}
use Rattle.promise_graph.proofs.calls.GraphNodes.build.Goals as goal

pub returns-clause-stands : goal.returns-clause-stands
returns-clause-stands g c w st = record {
  nodes = stands_for _ _ _ _ _ c.build.ensures.kept.sound.numbered (c.build.ensures.stands w (stands_seen g.St.Store.node_at g.Q.Queue.events g.St.Store.stands _ _ w c.self.view_is st.nodes.stands));
  lists = same_lists c.build.new.g.marks c.self.inside.memberships (lists_in w) _ (names_lists w _ (built_names (link_number c.args.before) (shown [] c.args.form) w))
      (lists_come (g.St.Store.node_at c.self.inside.fields.store) (g.St.Store.node_at c.build.new.g.store) c.self.inside.fields.marks c.build.new.g.marks c.self.invariant.0.sound.numbered c.build.ensures.kept.sound.numbered c.build.ensures.comes c.self.inside.memberships (lists_in w) c.self.invariant.2 c.build.ensures.slots c.build.ensures.next (lists_seen _ _ (lists_in w) c.self.view_is st.lists));
}
