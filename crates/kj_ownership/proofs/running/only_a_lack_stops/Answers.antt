use Rattle.kj_ownership.proofs.TurnLacks.{turn_lacks, run_lacks, turn_told, turn_tells}
use Rattle.kj_ownership.proofs.WaitLacks.{wait_lacks}
use Rattle.kj_ownership.proofs.running.only_a_lack_stops.Goals as goal

pub returns-clause-turn : goal.returns-clause-turn
returns-clause-turn c = turn_lacks

pub returns-clause-run : goal.returns-clause-run
returns-clause-run c = run_lacks

pub returns-clause-wait : goal.returns-clause-wait
returns-clause-wait c = wait_lacks

pub returns-clause-told : goal.returns-clause-told
returns-clause-told c = turn_told

pub returns-clause-stopped : goal.returns-clause-stopped
returns-clause-stopped c = λ setting s e. (turn_tells setting s e).1
