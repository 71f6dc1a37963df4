use Rattle.std.proofs.Common.{◌∙◌}
use Rattle.promise_apply.proofs.Sided.{named_in}
use Rattle.promise_apply.proofs.sources.is_among.Goals as goal

pub returns : goal.returns
returns c = c.some_named.ensures ∙ named_in c.args.name.0 c.args.sources.now
