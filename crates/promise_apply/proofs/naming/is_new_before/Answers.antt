use Rattle.std.proofs.Common.{◌∙◌}
use Rattle.kj_model.specs.Uses.{is_new}
use Rattle.promise_apply.proofs.Uses.{used_shown}
use Rattle.promise_apply.proofs.naming.is_new_before.Goals as goal

pub returns : goal.returns
returns c = c.some_new.ensures ∙ used_shown is_new c.args.name.0 c.args.before.now
