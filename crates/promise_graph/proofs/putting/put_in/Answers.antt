use Rattle.std.proofs.Common.{sym, refl, subst}
use Rattle.kj_base.specs.declared.nodes.Node.{Node}
use Rattle.promise_graph.specs.declared.fields.Marks.{Marks}
use Rattle.promise_graph.specs.Standing.{AreOwned}
use Rattle.promise_graph.proofs.Put.{node_of, owned_put}
use Rattle.promise_graph.proofs.putting.put_in.Goals as goal

pub returns-clause-stands : goal.returns-clause-stands
returns-clause-stands g c w st adds =
    let at = g.St.Store.node_at c.args.g.now.store in
    let new = g.St.Store.node_at c.set_form.new.g.store in
    let m = c.args.g.now.marks in
    let slot = c.args.slot.0 in
    let n = c.args.n in
    let node : Node = record { number = record { 0 = n }; form = c.args.form } in
    let old = node_of (at slot) n c.requires.live in
    record {
      seen = c.set_form.ensures.seen w st.seen;
      owned = subst (λ (x : Marks). AreOwned new x) (sym c.set_form.ensures.marks)
          (owned_put at new m slot n c.args.form node old.0 c.requires.kept.sound.numbered c.requires.live refl refl old.1 c.set_form.ensures.changed c.set_form.ensures.nodes (c.requires.kind old.0 old.1) w.nodes st.seen.nodes (λ j i. adds j i) st.owned);
    }
