use Rattle.std.proofs.Common.{[], ◌∷◌}
use Rattle.kj_base.specs.Commands.{Cancel}
use Rattle.kj_model.specs.Uses.{use_as, IsCanceler}
use Rattle.promise_commands.specs.Refusals.{refusal_of}
use Rattle.promise_apply.specs.Building.{Both}
use Rattle.promise_apply.proofs.Refused.{idle_applies}
use Rattle.promise_apply.proofs.Idle.{cancel_idle}
use Rattle.promise_apply.proofs.groups.apply_cancel.Goals as goal

pub returns : goal.returns
returns g c = record {
  applied =
      idle_applies (Both (g.N.Nodes.stands c.args.nodes.now) (g.M.Names.stands c.args.names.now)) g.N.Nodes.rule (refusal_of c.check.result) (Cancel c.args.canceler.0) (use_as IsCanceler c.args.canceler.0 ∷ [])
      (cancel_idle (Both (g.N.Nodes.stands c.args.nodes.now) (g.M.Names.stands c.args.names.now)) c.args.canceler.0 (λ w old. g.met.M.Names.no_wraps c.args.names.now w c.args.canceler.0 old.1))
      (λ w old. c.check.ensures.refusal w old);
}
