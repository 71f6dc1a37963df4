use Rattle.executor_core.proofs.Own.{unfinished_runs, runs_unfinished, unstarted_is_out, outstanding_own}
use Rattle.executor_core.proofs.laws.own_entries_tell.Goals as goal

pub returns-clause-runs : goal.returns-clause-runs
returns-clause-runs c = λ limit es l n. (unfinished_runs limit es l n, runs_unfinished limit es l n)

pub returns-clause-fresh : goal.returns-clause-fresh
returns-clause-fresh c = unstarted_is_out

pub returns-clause-own : goal.returns-clause-own
returns-clause-own c = outstanding_own
