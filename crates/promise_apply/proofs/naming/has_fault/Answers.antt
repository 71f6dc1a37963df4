use Rattle.promise_apply.specs.Uses.{uses_shown}
use Rattle.promise_apply.proofs.naming.has_fault.Goals as goal

pub returns-in-Wrong : goal.returns-in-Wrong
returns-in-Wrong g c w both = rw c.in-Wrong.is (c.is_wrong_name.ensures w (uses_shown c.args.before.now) both.1)
