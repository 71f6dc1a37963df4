-- A loop stands at the new state.
use Rattle.std.proofs.Common.{◌∙◌, sym, ap, subst, refl}
use Rattle.kj_model.specs.World.{new_world}
use Rattle.kj_ownership.proofs.Calls.{new_kept}
use Rattle.promise_graph.specs.Standing.{StandsFor}
use Rattle.name_table.specs.Table.{Stands}
use Rattle.loop_core.proofs.over.LoopOver+Graph+St+Q+NameTree.new.Goals as goal

pub returns : goal.returns
returns g c = record {
  stands = λ takes. record {
    takes = takes;
    stands = (
      subst (λ nodes. StandsFor (g.St.Store.node_at nodes.store) (g.Q.Queue.events nodes.queue) (g.St.Store.stands nodes.store) nodes.marks nodes.memberships (new_world c.args.limits))
          (sym (ap (λ k. k.nodes) c.in_ok-over.ensures ∙ c.in_ok-ground.ensures.nodes)) (c.in_ok-graph.ensures.stands c.args.limits refl),
      subst (λ names. Stands names (new_world c.args.limits))
          (sym (ap (λ k. k.names) c.in_ok-over.ensures ∙ c.in_ok-ground.ensures.names)) (c.in_ok-names.ensures.stands c.args.limits refl),
    );
    kept = new_kept c.args.limits;
  };
}
