-- A text is one of three.
use Rattle.promise_script.proofs.Faults.{some_reading, script_not_bad, script_built, bad_or_not_built}
use Rattle.promise_script.proofs.laws.some_script.Goals as goal

pub returns-clause-some : goal.returns-clause-some
returns-clause-some c = some_reading

pub returns-clause-not_bad : goal.returns-clause-not_bad
returns-clause-not_bad c = script_not_bad

pub returns-clause-built : goal.returns-clause-built
returns-clause-built c = script_built

pub returns-clause-either : goal.returns-clause-either
returns-clause-either c = bad_or_not_built
