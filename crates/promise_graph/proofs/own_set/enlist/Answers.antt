use Rattle.std.proofs.Common.{subst, Option}
use Rattle.std.specs.Prelude.{IsSome}
use Rattle.std.proofs.lemmas.Bool.{false≢true}
use Rattle.kj_model.specs.Nodes.{Form}
use Rattle.promise_graph.proofs.own_set.enlist.Goals as goal

pub returns-in_default-clause-stands : goal.returns-in_default-clause-stands
returns-in_default-clause-stands g c w st live new = absurd (false≢true (subst (λ (o : Option Form). IsSome o) (st.seen.nodes.absent c.args.task.number.0 c.in_default.ensures) live))
