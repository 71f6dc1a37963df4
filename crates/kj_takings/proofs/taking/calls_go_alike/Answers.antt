use Rattle.kj_takings.proofs.Beside.{call_alike}
use Rattle.kj_takings.proofs.taking.calls_go_alike.Goals as goal

pub returns-clause-state : goal.returns-clause-state
returns-clause-state g = λ loose setting c s t e f a. (call_alike loose setting c s t e f a).0

pub returns-clause-answer : goal.returns-clause-answer
returns-clause-answer g = λ loose setting c s t e f a. (call_alike loose setting c s t e f a).1
