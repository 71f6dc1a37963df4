use Rattle.kj_ownership.proofs.TurnLacks.{turn_found, run_found, turn_runs_on, run_runs_on}
use Rattle.kj_ownership.proofs.WaitLacks.{wait_found}
use Rattle.kj_ownership.proofs.running.memory_keeps_loops_running.Goals as goal

pub returns-clause-turn : goal.returns-clause-turn
returns-clause-turn c = turn_found

pub returns-clause-run : goal.returns-clause-run
returns-clause-run c = run_found

pub returns-clause-wait : goal.returns-clause-wait
returns-clause-wait c = wait_found

pub returns-clause-turn_goes_on : goal.returns-clause-turn_goes_on
returns-clause-turn_goes_on c = turn_runs_on

pub returns-clause-run_goes_on : goal.returns-clause-run_goes_on
returns-clause-run_goes_on c = run_runs_on
