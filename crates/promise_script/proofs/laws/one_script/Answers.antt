-- A text is read as one thing.
use Rattle.promise_script.proofs.Faults.{same_script, same_bad, same_not_built, one_reading}
use Rattle.promise_script.proofs.laws.one_script.Goals as goal

pub returns-clause-script : goal.returns-clause-script
returns-clause-script c = same_script

pub returns-clause-bad : goal.returns-clause-bad
returns-clause-bad c = same_bad

pub returns-clause-not_built : goal.returns-clause-not_built
returns-clause-not_built c = same_not_built

pub returns-clause-reading : goal.returns-clause-reading
returns-clause-reading c = one_reading
