use Rattle.std.proofs.Common.{refl, []}
use Rattle.kj_model.specs.Value.{with_stopped}
use Rattle.promise_commands.specs.Commands.{action_of}
use Rattle.promise_walks.specs.Walks.{Both}
use Rattle.promise_walks.specs.Values.{given_of}
use Rattle.promise_eval.proofs.Ran.{lacked, ran}
use Rattle.promise_eval.proofs.acting.run_step.Goals as goal

pub returns-in-Ok-clause-gives : goal.returns-in-Ok-clause-gives
returns-in-Ok-clause-gives g c =
    let n = c.args.node.number.0 in
    let step = c.args.step.0 in
    let action = action_of c.in-Ok.action in
    let all = ran (Both (g.N.Nodes.stands c.args.nodes.now) (g.M.Names.stands c.args.names.now)) (Both (g.N.Nodes.stands c.act-given.new.nodes) (g.M.Names.stands c.act-given.new.names)) g.N.Nodes.rule
    c.args.under_chain n step c.args.input action (given_of c.act-given.result) _ _ _ c.in-Ok.ensures.ran c.act-given.ensures.acted in
    record { items = all.items; told = all.told; same = all.goes }

pub returns-in-Err-clause-gives : goal.returns-in-Err-clause-gives
returns-in-Err-clause-gives g c = record {
  items = [];
  told = c.in-Err.ensures.none;
  same = lacked (Both (g.N.Nodes.stands c.args.nodes.now) (g.M.Names.stands c.args.names.now)) (Both (g.N.Nodes.stands c.args.nodes.now) (g.M.Names.stands c.stop.new.self)) g.N.Nodes.rule
      c.args.under_chain c.args.node.number.0 c.args.step.0 c.args.input
      (λ w old. (g.met.N.Nodes.names_free c.args.nodes.now w (with_stopped w) refl (λ l. refl) old.0, c.stop.ensures.stands w old.1));
}
