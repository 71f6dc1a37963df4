-- Scripts on the order of events.
use Rattle.std.specs.Prelude.{ℕ, List, [], ◌∷◌, codes, Some, None}
use Rattle.kj_base.specs.declared.outcomes.Kind.TheVariants.{Failed}
use Rattle.kj_base.specs.declared.outcomes.Outcome.TheVariants.{Value}
use Rattle.kj_base.specs.declared.endings.Ending.TheVariants.{Value as Give}
use Rattle.kj_base.specs.Commands.{Now, Later, Last, Pair, Then, Chain, Eager, Race, Fulfil, Reject, DropCell, Detach, Drop, Ask, Reply}
use Rattle.kj_model.specs.Log.{Do, Turn, RunTurns, Wait, Script}
use Rattle.kj_model.specs.Scripts.{at, body, exception, limits, lines, promised, script}

-- the leaf 1 is evaluated and freed, then the step of the Then 2 runs, then the Task 3 frees its tree and goes
-- later 1 | then 2 1 10 - | detach 2 | turn
abbrev pub dependency_goes_first : Script
dependency_goes_first = script None [] (
    at 1 (Do (Later 1)) ∷
    at 2 (Do (Then 2 1 (Some 10) None)) ∷
    at 3 (Do (Detach 2)) ∷
    at 4 Turn ∷ [])

-- its log
abbrev pub dependency_goes_first_log : List ℕ
dependency_goes_first_log = lines (codes "free 1" ∷
    codes "run 2 10 value" ∷
    codes "free 2" ∷
    codes "free 3" ∷ [])

-- both tasks are armed breadth first when they are built, so the older one runs in the first turn
-- later 1 | then 2 1 10 - | detach 2 | later 3 | then 4 3 11 - | detach 4 | turn | turn
abbrev pub armed_in_order : Script
armed_in_order = script None [] (
    at 1 (Do (Later 1)) ∷
    at 2 (Do (Then 2 1 (Some 10) None)) ∷
    at 3 (Do (Detach 2)) ∷
    at 4 (Do (Later 3)) ∷
    at 5 (Do (Then 4 3 (Some 11) None)) ∷
    at 6 (Do (Detach 4)) ∷
    at 7 Turn ∷
    at 8 Turn ∷ [])

-- its log
abbrev pub armed_in_order_log : List ℕ
armed_in_order_log = lines (codes "free 1" ∷
    codes "run 2 10 value" ∷
    codes "free 2" ∷
    codes "free 3" ∷
    codes "free 4" ∷
    codes "run 5 11 value" ∷
    codes "free 5" ∷
    codes "free 6" ∷ [])

-- a run of two turns does as two turns
-- later 1 | then 2 1 10 - | detach 2 | later 3 | then 4 3 11 - | detach 4 | run 2
abbrev pub run_makes_turns : Script
run_makes_turns = script None [] (
    at 1 (Do (Later 1)) ∷
    at 2 (Do (Then 2 1 (Some 10) None)) ∷
    at 3 (Do (Detach 2)) ∷
    at 4 (Do (Later 3)) ∷
    at 5 (Do (Then 4 3 (Some 11) None)) ∷
    at 6 (Do (Detach 4)) ∷
    at 7 (RunTurns 2) ∷ [])

-- its log
abbrev pub run_makes_turns_log : List ℕ
run_makes_turns_log = lines (codes "free 1" ∷
    codes "run 2 10 value" ∷
    codes "free 2" ∷
    codes "free 3" ∷
    codes "free 4" ∷
    codes "run 5 11 value" ∷
    codes "free 5" ∷
    codes "free 6" ∷ [])

-- the step settles a cell: its task 3 runs in the next turn, ahead of the task 9 that was armed before
-- step 10 | fulfil 5 7 | value | pair 4 5 | then 6 4 11 - | detach 6 | later 1 | then 2 1 10 - | detach 2 | later 7 | then 8 7 12 - | detach 8 | run 3
abbrev pub settled_goes_ahead : Script
settled_goes_ahead = script None (
    body 10 (Fulfil 5 (7 ∷ []) ∷ []) (Give []) ∷ []) (
    at 4 (Do (Pair 4 5)) ∷
    at 5 (Do (Then 6 4 (Some 11) None)) ∷
    at 6 (Do (Detach 6)) ∷
    at 7 (Do (Later 1)) ∷
    at 8 (Do (Then 2 1 (Some 10) None)) ∷
    at 9 (Do (Detach 2)) ∷
    at 10 (Do (Later 7)) ∷
    at 11 (Do (Then 8 7 (Some 12) None)) ∷
    at 12 (Do (Detach 8)) ∷
    at 13 (RunTurns 3) ∷ [])

-- its log
abbrev pub settled_goes_ahead_log : List ℕ
settled_goes_ahead_log = lines (codes "free 4" ∷
    codes "run 5 10 value" ∷
    codes "free 5" ∷
    codes "free 6" ∷
    codes "free 1" ∷
    codes "run 2 11 value 7" ∷
    codes "free 2" ∷
    codes "free 3" ∷
    codes "free 7" ∷
    codes "run 8 12 value" ∷
    codes "free 8" ∷
    codes "free 9" ∷ [])

-- a step settles two cells: their tasks run in the order of settling, ahead of the task 12 that was armed before
-- step 10 | fulfil 21 1 | fulfil 22 2 | value | pair 11 21 | pair 12 22 | then 13 11 31 - | then 14 12 32 - | detach 13 | detach 14 | later 1 | then 2 1 10 - | detach 2 | later 3 | then 4 3 40 - | detach 4 | run 4
abbrev pub settled_in_order : Script
settled_in_order = script None (
    body 10 (Fulfil 21 (1 ∷ []) ∷ Fulfil 22 (2 ∷ []) ∷ []) (Give []) ∷ []) (
    at 5 (Do (Pair 11 21)) ∷
    at 6 (Do (Pair 12 22)) ∷
    at 7 (Do (Then 13 11 (Some 31) None)) ∷
    at 8 (Do (Then 14 12 (Some 32) None)) ∷
    at 9 (Do (Detach 13)) ∷
    at 10 (Do (Detach 14)) ∷
    at 11 (Do (Later 1)) ∷
    at 12 (Do (Then 2 1 (Some 10) None)) ∷
    at 13 (Do (Detach 2)) ∷
    at 14 (Do (Later 3)) ∷
    at 15 (Do (Then 4 3 (Some 40) None)) ∷
    at 16 (Do (Detach 4)) ∷
    at 17 (RunTurns 4) ∷ [])

-- its log
abbrev pub settled_in_order_log : List ℕ
settled_in_order_log = lines (codes "free 7" ∷
    codes "run 8 10 value" ∷
    codes "free 8" ∷
    codes "free 9" ∷
    codes "free 1" ∷
    codes "run 3 31 value 1" ∷
    codes "free 3" ∷
    codes "free 5" ∷
    codes "free 2" ∷
    codes "run 4 32 value 2" ∷
    codes "free 4" ∷
    codes "free 6" ∷
    codes "free 10" ∷
    codes "run 11 40 value" ∷
    codes "free 11" ∷
    codes "free 12" ∷ [])

-- a reply arms breadth first: the task 3 runs after the task 6, which was armed before the reply
-- ask 1 2 0 7 | then 3 1 30 - | detach 3 | later 5 | then 6 5 31 - | detach 6 | reply 2 value | run 2
abbrev pub reply_stands_behind : Script
reply_stands_behind = script None [] (
    at 1 (Do (Ask 1 2 0 7 [])) ∷
    at 2 (Do (Then 3 1 (Some 30) None)) ∷
    at 3 (Do (Detach 3)) ∷
    at 4 (Do (Later 5)) ∷
    at 5 (Do (Then 6 5 (Some 31) None)) ∷
    at 6 (Do (Detach 6)) ∷
    at 7 (Do (Reply 2 (Value []))) ∷
    at 8 (RunTurns 2) ∷ [])

-- its log
abbrev pub reply_stands_behind_log : List ℕ
reply_stands_behind_log = lines (codes "ask 2 0 7" ∷
    codes "free 4" ∷
    codes "run 5 31 value" ∷
    codes "free 5" ∷
    codes "free 6" ∷
    codes "free 1" ∷
    codes "run 2 30 value" ∷
    codes "free 2" ∷
    codes "free 3" ∷ [])

-- the evaluation at the end of a wait settles a cell, and no rewind follows: a cell that is settled afterwards stands behind that one
-- step 30 | fulfil 11 | value | pair 1 11 | then 2 1 20 - | detach 2 | pair 3 13 | then 4 3 21 - | detach 4 | now 5 | then 6 5 30 - | wait 6 3 | fulfil 13 | run 2
abbrev pub wait_moves_no_point : Script
wait_moves_no_point = script None (
    body 30 (Fulfil 11 [] ∷ []) (Give []) ∷ []) (
    at 4 (Do (Pair 1 11)) ∷
    at 5 (Do (Then 2 1 (Some 20) None)) ∷
    at 6 (Do (Detach 2)) ∷
    at 7 (Do (Pair 3 13)) ∷
    at 8 (Do (Then 4 3 (Some 21) None)) ∷
    at 9 (Do (Detach 4)) ∷
    at 10 (Do (Now 5 [])) ∷
    at 11 (Do (Then 6 5 (Some 30) None)) ∷
    at 12 (Wait 6 3) ∷
    at 13 (Do (Fulfil 13 [])) ∷
    at 14 (RunTurns 2) ∷ [])

-- its log
abbrev pub wait_moves_no_point_log : List ℕ
wait_moves_no_point_log = lines (codes "free 7" ∷
    codes "run 8 30 value" ∷
    codes "free 8" ∷
    codes "wait 6 done value" ∷
    codes "free 1" ∷
    codes "run 2 20 value" ∷
    codes "free 2" ∷
    codes "free 3" ∷
    codes "free 4" ∷
    codes "run 5 21 value" ∷
    codes "free 5" ∷
    codes "free 6" ∷ [])

-- each last event is put at the second point, which stays: the later armed the sooner, and an event armed breadth first goes ahead
-- last 1 | then 2 1 11 - | detach 2 | last 3 | then 4 3 12 - | detach 4 | later 5 | then 6 5 13 - | detach 6 | run 3
abbrev pub last_in_reverse : Script
last_in_reverse = script None [] (
    at 1 (Do (Last 1)) ∷
    at 2 (Do (Then 2 1 (Some 11) None)) ∷
    at 3 (Do (Detach 2)) ∷
    at 4 (Do (Last 3)) ∷
    at 5 (Do (Then 4 3 (Some 12) None)) ∷
    at 6 (Do (Detach 4)) ∷
    at 7 (Do (Later 5)) ∷
    at 8 (Do (Then 6 5 (Some 13) None)) ∷
    at 9 (Do (Detach 6)) ∷
    at 10 (RunTurns 3) ∷ [])

-- its log
abbrev pub last_in_reverse_log : List ℕ
last_in_reverse_log = lines (codes "free 7" ∷
    codes "run 8 13 value" ∷
    codes "free 8" ∷
    codes "free 9" ∷
    codes "free 4" ∷
    codes "run 5 12 value" ∷
    codes "free 5" ∷
    codes "free 6" ∷
    codes "free 1" ∷
    codes "run 2 11 value" ∷
    codes "free 2" ∷
    codes "free 3" ∷ [])

-- the chain 3 becomes the leaf Last, and its listener is armed last: events armed before and afterwards run first
-- step 20 | last 5 | promise 5 | later 1 | chain 2 1 20 - | then 3 2 30 - | detach 3 | later 6 | then 7 6 31 - | detach 7 | turn | later 8 | then 9 8 32 - | detach 9 | run 3
abbrev pub chain_over_last : Script
chain_over_last = script None (
    body 20 (Last 5 ∷ []) (promised 5) ∷ []) (
    at 4 (Do (Later 1)) ∷
    at 5 (Do (Chain 2 1 (Some 20) None)) ∷
    at 6 (Do (Then 3 2 (Some 30) None)) ∷
    at 7 (Do (Detach 3)) ∷
    at 8 (Do (Later 6)) ∷
    at 9 (Do (Then 7 6 (Some 31) None)) ∷
    at 10 (Do (Detach 7)) ∷
    at 11 Turn ∷
    at 12 (Do (Later 8)) ∷
    at 13 (Do (Then 9 8 (Some 32) None)) ∷
    at 14 (Do (Detach 9)) ∷
    at 15 (RunTurns 3) ∷ [])

-- its log
abbrev pub chain_over_last_log : List ℕ
chain_over_last_log = lines (codes "free 1" ∷
    codes "run 2 20 value" ∷
    codes "free 2" ∷
    codes "free 3" ∷
    codes "free 6" ∷
    codes "run 7 31 value" ∷
    codes "free 7" ∷
    codes "free 8" ∷
    codes "free 10" ∷
    codes "run 11 32 value" ∷
    codes "free 11" ∷
    codes "free 12" ∷
    codes "free 9" ∷
    codes "run 4 30 value" ∷
    codes "free 4" ∷
    codes "free 5" ∷ [])

-- each run of the step gives the next chain, and the last one is let go: a loop of promises doesn't grow
-- limits 24 1 | step 1 | later 10 | chain 11 10 1 - | promise 11 | later 10 | chain 11 10 1 - | detach 11 | run 5
abbrev pub promise_loop : Script
promise_loop = script (limits 24 1) (
    body 1 (Later 10 ∷ Chain 11 10 (Some 1) None ∷ []) (promised 11) ∷ []) (
    at 6 (Do (Later 10)) ∷
    at 7 (Do (Chain 11 10 (Some 1) None)) ∷
    at 8 (Do (Detach 11)) ∷
    at 9 (RunTurns 5) ∷ [])

-- its log
abbrev pub promise_loop_log : List ℕ
promise_loop_log = lines (codes "free 1" ∷
    codes "run 2 1 value" ∷
    codes "free 2" ∷
    codes "free 3" ∷
    codes "free 5" ∷
    codes "run 6 1 value" ∷
    codes "free 6" ∷
    codes "free 7" ∷
    codes "free 8" ∷
    codes "run 9 1 value" ∷
    codes "free 9" ∷
    codes "free 10" ∷
    codes "free 11" ∷
    codes "run 12 1 value" ∷
    codes "free 12" ∷
    codes "free 13" ∷
    codes "free 14" ∷
    codes "run 15 1 value" ∷
    codes "free 15" ∷
    codes "free 16" ∷
    codes "free 17" ∷
    codes "free 18" ∷
    codes "free 19" ∷
    codes "free 4" ∷ [])

-- the Then 2 stands below the Then 3, not directly below the chain: its promise is refused with code 8, and the promise 5 stays until the closing
-- step 20 | later 5 | promise 5 | later 1 | then 2 1 20 - | chain 3 2 - 30 | turn
abbrev pub promise_needs_a_chain : Script
promise_needs_a_chain = script None (
    body 20 (Later 5 ∷ []) (promised 5) ∷ []) (
    at 4 (Do (Later 1)) ∷
    at 5 (Do (Then 2 1 (Some 20) None)) ∷
    at 6 (Do (Chain 3 2 None (Some 30))) ∷
    at 7 Turn ∷ [])

-- its log
abbrev pub promise_needs_a_chain_log : List ℕ
promise_needs_a_chain_log = lines (codes "free 1" ∷
    codes "run 2 20 value" ∷
    codes "free 2" ∷
    codes "run 3 30 throw failed 8" ∷
    codes "free 3" ∷
    codes "free 4" ∷
    codes "free 5" ∷ [])

-- the first run takes the first body, the second the second, each later run the last
-- step 20 | value 1 | step 20 | value 2 | later 1 | then 2 1 20 - | then 3 2 20 - | then 4 3 20 - | then 5 4 20 - | detach 5 | turn
abbrev pub bodies_by_run : Script
bodies_by_run = script None (
    body 20 [] (Give (1 ∷ [])) ∷
    body 20 [] (Give (2 ∷ [])) ∷ []) (
    at 5 (Do (Later 1)) ∷
    at 6 (Do (Then 2 1 (Some 20) None)) ∷
    at 7 (Do (Then 3 2 (Some 20) None)) ∷
    at 8 (Do (Then 4 3 (Some 20) None)) ∷
    at 9 (Do (Then 5 4 (Some 20) None)) ∷
    at 10 (Do (Detach 5)) ∷
    at 11 Turn ∷ [])

-- its log
abbrev pub bodies_by_run_log : List ℕ
bodies_by_run_log = lines (codes "free 1" ∷
    codes "run 2 20 value" ∷
    codes "free 2" ∷
    codes "run 3 20 value 1" ∷
    codes "free 3" ∷
    codes "run 4 20 value 2" ∷
    codes "free 4" ∷
    codes "run 5 20 value 2" ∷
    codes "free 5" ∷
    codes "free 6" ∷ [])

-- a cell whose fulfiller is dropped ends with code 1, and the step for exceptions runs
-- pair 1 2 | then 3 1 10 11 | detach 3 | dropcell 2 | run 1
abbrev pub dropped_fulfiller : Script
dropped_fulfiller = script None [] (
    at 1 (Do (Pair 1 2)) ∷
    at 2 (Do (Then 3 1 (Some 10) (Some 11))) ∷
    at 3 (Do (Detach 3)) ∷
    at 4 (Do (DropCell 2)) ∷
    at 5 (RunTurns 1) ∷ [])

-- its log
abbrev pub dropped_fulfiller_log : List ℕ
dropped_fulfiller_log = lines (codes "free 1" ∷
    codes "run 2 11 throw failed 1" ∷
    codes "free 2" ∷
    codes "free 3" ∷ [])

-- the same without a step for exceptions: nothing runs
-- pair 1 2 | then 3 1 10 - | detach 3 | dropcell 2 | run 1
abbrev pub exception_passes : Script
exception_passes = script None [] (
    at 1 (Do (Pair 1 2)) ∷
    at 2 (Do (Then 3 1 (Some 10) None)) ∷
    at 3 (Do (Detach 3)) ∷
    at 4 (Do (DropCell 2)) ∷
    at 5 (RunTurns 1) ∷ [])

-- its log
abbrev pub exception_passes_log : List ℕ
exception_passes_log = lines (codes "free 1" ∷
    codes "free 2" ∷
    codes "free 3" ∷ [])

-- the left Side is armed last and the right one breadth first, so the right one fires first and wins
-- last 1 | later 2 | race 3 1 2 | detach 3 | run 2
abbrev pub last_in_a_race : Script
last_in_a_race = script None [] (
    at 1 (Do (Last 1)) ∷
    at 2 (Do (Later 2)) ∷
    at 3 (Do (Race 3 1 2)) ∷
    at 4 (Do (Detach 3)) ∷
    at 5 (RunTurns 2) ∷ [])

-- its log
abbrev pub last_in_a_race_log : List ℕ
last_in_a_race_log = lines (codes "free 1" ∷
    codes "free 2" ∷
    codes "free 3" ∷
    codes "free 4" ∷
    codes "free 5" ∷
    codes "free 6" ∷ [])

-- the step gives a value: the chain 3 becomes ready in place and arms its task breadth first, behind the task 8
-- now 1 5 | chain 2 1 10 - | then 3 2 11 - | detach 3 | now 4 6 | then 5 4 12 - | detach 5 | run 3
abbrev pub chain_ready_in_place : Script
chain_ready_in_place = script None [] (
    at 1 (Do (Now 1 (5 ∷ []))) ∷
    at 2 (Do (Chain 2 1 (Some 10) None)) ∷
    at 3 (Do (Then 3 2 (Some 11) None)) ∷
    at 4 (Do (Detach 3)) ∷
    at 5 (Do (Now 4 (6 ∷ []))) ∷
    at 6 (Do (Then 5 4 (Some 12) None)) ∷
    at 7 (Do (Detach 5)) ∷
    at 8 (RunTurns 3) ∷ [])

-- its log
abbrev pub chain_ready_in_place_log : List ℕ
chain_ready_in_place_log = lines (codes "free 1" ∷
    codes "run 2 10 value 5" ∷
    codes "free 2" ∷
    codes "free 6" ∷
    codes "run 7 12 value 6" ∷
    codes "free 7" ∷
    codes "free 8" ∷
    codes "free 3" ∷
    codes "run 4 11 value 5" ∷
    codes "free 4" ∷
    codes "free 5" ∷ [])

-- an eager promise is evaluated though nobody waits, and keeps its outcome; what is attached afterwards finds it ready
-- later 1 | eager 2 1 | turn | then 3 2 10 - | detach 3 | turn
abbrev pub eager_keeps : Script
eager_keeps = script None [] (
    at 1 (Do (Later 1)) ∷
    at 2 (Do (Eager 2 1)) ∷
    at 3 Turn ∷
    at 4 (Do (Then 3 2 (Some 10) None)) ∷
    at 5 (Do (Detach 3)) ∷
    at 6 Turn ∷ [])

-- its log
abbrev pub eager_keeps_log : List ℕ
eager_keeps_log = lines (codes "free 1" ∷
    codes "free 2" ∷
    codes "run 3 10 value" ∷
    codes "free 3" ∷
    codes "free 4" ∷ [])

-- a cell whose promise is gone takes nothing, and a settled one keeps its first outcome
-- pair 1 11 | pair 2 12 | drop 1 | fulfil 11 5 | fulfil 12 6 | reject 12 failed 1000 | wait 2 1
abbrev pub settled_once : Script
settled_once = script None [] (
    at 1 (Do (Pair 1 11)) ∷
    at 2 (Do (Pair 2 12)) ∷
    at 3 (Do (Drop 1)) ∷
    at 4 (Do (Fulfil 11 (5 ∷ []))) ∷
    at 5 (Do (Fulfil 12 (6 ∷ []))) ∷
    at 6 (Do (Reject 12 (exception Failed 1000))) ∷
    at 7 (Wait 2 1) ∷ [])

-- its log
abbrev pub settled_once_log : List ℕ
settled_once_log = lines (codes "free 1" ∷
    codes "free 2" ∷
    codes "wait 2 done value 6" ∷ [])
