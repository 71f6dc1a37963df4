use Rattle.std.proofs.Common.{◌∙◌}
use Rattle.promise_apply.proofs.Uses.{there_is}
use Rattle.promise_apply.proofs.naming.is_there.Goals as goal

pub returns : goal.returns
returns g c w st = c.is_some.ensures ∙ there_is c.args.name.0 w.names c.get.result (c.get.ensures.held w st)
