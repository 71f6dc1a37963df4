use Rattle.std.proofs.Common.{ℕ, Option, sym, subst}
use Rattle.kj_model.specs.Changes.{arm_listener}
use Rattle.promise_nodes.specs.Shown.{way_of}
use Rattle.promise_listening.proofs.arming.announce.Goals as goal

pub returns-clause-stands : goal.returns-clause-stands
returns-clause-stands g c w st live =
    subst (λ (by : Option ℕ). g.N.Nodes.stands c.arm.new.nodes (arm_listener (way_of c.args.way) by w)) (sym (c.listener-by.ensures.listener w st live))
    (c.arm.ensures.stands w st (c.listener-by.ensures.event w st live))
