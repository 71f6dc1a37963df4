use Rattle.promise_graph.proofs.Members.{members_without}
use Rattle.promise_graph.proofs.own_set.delist.Goals as goal

pub returns-in_default-clause-stands : goal.returns-in_default-clause-stands
returns-in_default-clause-stands g c w st = record {
  seen = record {
    nodes = st.seen.nodes;
    queue = st.seen.queue;
    spots = st.seen.spots;
    next_is = st.seen.next_is;
    slots_are = st.seen.slots_are;
    firing_is = st.seen.firing_is;
    awaited_is = st.seen.awaited_is;
    tasks = members_without (g.St.Store.node_at c.args.g.now.store) c.args.g.now.marks c.args.task.number.0 c.args.g.now.marks.tasks c.requires.kept.sound.numbered c.in_default.ensures w.detached st.seen.tasks;
    hubs = st.seen.hubs;
  };
  owned = st.owned;
}
