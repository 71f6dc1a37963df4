use Rattle.std.proofs.Common.{◌∙◌}
use Rattle.kj_model.specs.Uses.{is_source}
use Rattle.promise_apply.proofs.Uses.{used_shown}
use Rattle.promise_apply.proofs.naming.is_source_before.Goals as goal

pub returns : goal.returns
returns c = c.some_source.ensures ∙ used_shown is_source c.args.name.0 c.args.before.now
