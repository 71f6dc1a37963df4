-- Scripts on sets, cancelers and dropped promises.
use Rattle.std.specs.Prelude.{ℕ, List, [], ◌∷◌, codes, Some, None}
use Rattle.kj_base.specs.declared.outcomes.Kind.TheVariants.{Failed}
use Rattle.kj_base.specs.declared.endings.Ending.TheVariants.{Value as Give}
use Rattle.kj_base.specs.Commands.{Broken, Later, Pair, Then, Chain, Eager, Fork, Branch, Fulfil, NewSet, Add, Clear, OnEmpty, NewCanceler, Wrap, Cancel, Detach, Drop}
use Rattle.kj_model.specs.Log.{Do, Turn, RunTurns, Wait, Script}
use Rattle.kj_model.specs.Scripts.{at, body, exception, lines, promised, script}

-- the step settles 21 and drops its promise: the event that left stood ahead of both points, and they fall, so that what 22 arms runs ahead of what was armed before
-- step 10 | fulfil 21 1 | drop 13 | fulfil 22 2 | value | pair 11 21 | pair 12 22 | eager 13 11 | then 14 12 32 - | detach 14 | later 1 | then 2 1 10 - | detach 2 | later 3 | then 4 3 40 - | detach 4 | run 9
abbrev pub dropped_ahead_of_the_point : Script
dropped_ahead_of_the_point = script None (
    body 10 (Fulfil 21 (1 ∷ []) ∷ Drop 13 ∷ Fulfil 22 (2 ∷ []) ∷ []) (Give []) ∷ []) (
    at 6 (Do (Pair 11 21)) ∷
    at 7 (Do (Pair 12 22)) ∷
    at 8 (Do (Eager 13 11)) ∷
    at 9 (Do (Then 14 12 (Some 32) None)) ∷
    at 10 (Do (Detach 14)) ∷
    at 11 (Do (Later 1)) ∷
    at 12 (Do (Then 2 1 (Some 10) None)) ∷
    at 13 (Do (Detach 2)) ∷
    at 14 (Do (Later 3)) ∷
    at 15 (Do (Then 4 3 (Some 40) None)) ∷
    at 16 (Do (Detach 4)) ∷
    at 17 (RunTurns 9) ∷ [])

-- its log
abbrev pub dropped_ahead_of_the_point_log : List ℕ
dropped_ahead_of_the_point_log = lines (codes "free 6" ∷
    codes "run 7 10 value" ∷
    codes "free 1" ∷
    codes "free 3" ∷
    codes "free 7" ∷
    codes "free 8" ∷
    codes "free 2" ∷
    codes "run 4 32 value 2" ∷
    codes "free 4" ∷
    codes "free 5" ∷
    codes "free 9" ∷
    codes "run 10 40 value" ∷
    codes "free 10" ∷
    codes "free 11" ∷ [])

-- a task leaves its set before its error step runs: a promise of emptiness made before is settled, and one made by the step is ready at once
-- step 20 | fulfil 11 | empty 8 5 | then 8 8 - - | value | set 5 20 | fail 1 failed 1000 | add 5 1 | empty 2 5 | then 3 2 30 - | detach 3 | pair 4 11 | then 6 4 31 - | detach 6 | run 5
abbrev pub empty_before_the_error_step : Script
empty_before_the_error_step = script None (
    body 20 (Fulfil 11 [] ∷ OnEmpty 8 5 ∷ Then 8 8 None None ∷ []) (Give []) ∷ []) (
    at 6 (Do (NewSet 5 (Some 20))) ∷
    at 7 (Do (Broken 1 (exception Failed 1000))) ∷
    at 8 (Do (Add 5 1)) ∷
    at 9 (Do (OnEmpty 2 5)) ∷
    at 10 (Do (Then 3 2 (Some 30) None)) ∷
    at 11 (Do (Detach 3)) ∷
    at 12 (Do (Pair 4 11)) ∷
    at 13 (Do (Then 6 4 (Some 31) None)) ∷
    at 14 (Do (Detach 6)) ∷
    at 15 (RunTurns 5) ∷ [])

-- its log
abbrev pub empty_before_the_error_step_log : List ℕ
empty_before_the_error_step_log = lines (codes "free 1" ∷
    codes "run 2 20 throw failed 1000" ∷
    codes "free 2" ∷
    codes "free 3" ∷
    codes "run 4 30 value" ∷
    codes "free 4" ∷
    codes "free 5" ∷
    codes "free 6" ∷
    codes "run 7 31 value" ∷
    codes "free 7" ∷
    codes "free 8" ∷
    codes "free 9" ∷ [])

-- the error step clears the set that its task has left: the other task goes, and the set is empty then
-- step 20 | clear 5 | value | set 5 20 | fail 1 failed 1000 | add 5 1 | pair 2 3 | add 5 2 | empty 4 5 | then 6 4 30 - | detach 6 | run 4
abbrev pub clear_in_the_error_step : Script
clear_in_the_error_step = script None (
    body 20 (Clear 5 ∷ []) (Give []) ∷ []) (
    at 4 (Do (NewSet 5 (Some 20))) ∷
    at 5 (Do (Broken 1 (exception Failed 1000))) ∷
    at 6 (Do (Add 5 1)) ∷
    at 7 (Do (Pair 2 3)) ∷
    at 8 (Do (Add 5 2)) ∷
    at 9 (Do (OnEmpty 4 5)) ∷
    at 10 (Do (Then 6 4 (Some 30) None)) ∷
    at 11 (Do (Detach 6)) ∷
    at 12 (RunTurns 4) ∷ [])

-- its log
abbrev pub clear_in_the_error_step_log : List ℕ
clear_in_the_error_step_log = lines (codes "free 1" ∷
    codes "run 2 20 throw failed 1000" ∷
    codes "free 3" ∷
    codes "free 4" ∷
    codes "free 2" ∷
    codes "free 5" ∷
    codes "run 6 30 value" ∷
    codes "free 6" ∷
    codes "free 7" ∷ [])

-- while one promise of emptiness waits, another one is refused; after it was dropped another one is made
-- set 5 - | later 1 | add 5 1 | empty 2 5 | empty 3 5 | drop 2 | empty 3 5 | turn | wait 3 3
abbrev pub one_promise_of_emptiness : Script
one_promise_of_emptiness = script None [] (
    at 1 (Do (NewSet 5 None)) ∷
    at 2 (Do (Later 1)) ∷
    at 3 (Do (Add 5 1)) ∷
    at 4 (Do (OnEmpty 2 5)) ∷
    at 5 (Do (OnEmpty 3 5)) ∷
    at 6 (Do (Drop 2)) ∷
    at 7 (Do (OnEmpty 3 5)) ∷
    at 8 Turn ∷
    at 9 (Wait 3 3) ∷ [])

-- its log
abbrev pub one_promise_of_emptiness_log : List ℕ
one_promise_of_emptiness_log = lines (codes "refused 5 taken 5" ∷
    codes "free 3" ∷
    codes "free 1" ∷
    codes "free 2" ∷
    codes "free 4" ∷
    codes "wait 3 done value" ∷ [])

-- the wrap was armed by its leaf: the cancel disarms it, and only the task runs
-- canceler 9 | later 1 | wrap 2 9 1 | then 3 2 30 31 | detach 3 | cancel 9 | run 1 | turn
abbrev pub cancelled_while_armed : Script
cancelled_while_armed = script None [] (
    at 1 (Do (NewCanceler 9)) ∷
    at 2 (Do (Later 1)) ∷
    at 3 (Do (Wrap 2 9 1)) ∷
    at 4 (Do (Then 3 2 (Some 30) (Some 31))) ∷
    at 5 (Do (Detach 3)) ∷
    at 6 (Do (Cancel 9)) ∷
    at 7 (RunTurns 1) ∷
    at 8 Turn ∷ [])

-- its log
abbrev pub cancelled_while_armed_log : List ℕ
cancelled_while_armed_log = lines (codes "free 1" ∷
    codes "free 2" ∷
    codes "run 3 31 throw failed 2" ∷
    codes "free 3" ∷
    codes "free 4" ∷
    codes "idle" ∷ [])

-- the newer wrap holds the last branch of the hub over the older one: cancelling it frees the older wrap, which is passed over then
-- canceler 9 | pair 1 11 | wrap 2 9 1 | fork 3 2 | branch 4 3 | drop 3 | wrap 5 9 4 | then 6 5 - 20 | detach 6 | cancel 9 | run 2
abbrev pub newer_wrap_frees_an_older : Script
newer_wrap_frees_an_older = script None [] (
    at 1 (Do (NewCanceler 9)) ∷
    at 2 (Do (Pair 1 11)) ∷
    at 3 (Do (Wrap 2 9 1)) ∷
    at 4 (Do (Fork 3 2)) ∷
    at 5 (Do (Branch 4 3)) ∷
    at 6 (Do (Drop 3)) ∷
    at 7 (Do (Wrap 5 9 4)) ∷
    at 8 (Do (Then 6 5 None (Some 20))) ∷
    at 9 (Do (Detach 6)) ∷
    at 10 (Do (Cancel 9)) ∷
    at 11 (RunTurns 2) ∷ [])

-- its log
abbrev pub newer_wrap_frees_an_older_log : List ℕ
newer_wrap_frees_an_older_log = lines (codes "free 1" ∷
    codes "free 2" ∷
    codes "free 3" ∷
    codes "free 4" ∷
    codes "free 5" ∷
    codes "run 6 20 throw failed 2" ∷
    codes "free 6" ∷
    codes "free 7" ∷ [])

-- the step runs under the Task that the set holds: the set can't be cleared
-- step 10 | clear 5 | value | set 5 20 | later 1 | then 2 1 10 - | add 5 2 | run 1
abbrev pub clear_is_busy : Script
clear_is_busy = script None (
    body 10 (Clear 5 ∷ []) (Give []) ∷ []) (
    at 4 (Do (NewSet 5 (Some 20))) ∷
    at 5 (Do (Later 1)) ∷
    at 6 (Do (Then 2 1 (Some 10) None)) ∷
    at 7 (Do (Add 5 2)) ∷
    at 8 (RunTurns 1) ∷ [])

-- its log
abbrev pub clear_is_busy_log : List ℕ
clear_is_busy_log = lines (codes "free 1" ∷
    codes "run 2 10 value" ∷
    codes "free 2" ∷
    codes "run 3 20 throw failed 9" ∷
    codes "free 3" ∷ [])

-- the step gives a promise whose tree holds the chain that fires
-- step 20 | then 3 2 - - | promise 3 | later 1 | chain 2 1 20 - | turn | wait 3 5
abbrev pub promise_is_busy : Script
promise_is_busy = script None (
    body 20 (Then 3 2 None None ∷ []) (promised 3) ∷ []) (
    at 4 (Do (Later 1)) ∷
    at 5 (Do (Chain 2 1 (Some 20) None)) ∷
    at 6 Turn ∷
    at 7 (Wait 3 5) ∷ [])

-- its log
abbrev pub promise_is_busy_log : List ℕ
promise_is_busy_log = lines (codes "free 1" ∷
    codes "run 2 20 value" ∷
    codes "free 2" ∷
    codes "free 3" ∷
    codes "free 4" ∷
    codes "wait 3 done throw failed 9" ∷ [])

-- the step would cancel the wrap whose event fires
-- step 20 | cancel 9 | value 5 | canceler 9 | later 1 | then 2 1 20 - | wrap 3 9 2 | wait 3 3
abbrev pub cancel_is_busy : Script
cancel_is_busy = script None (
    body 20 (Cancel 9 ∷ []) (Give (5 ∷ [])) ∷ []) (
    at 4 (Do (NewCanceler 9)) ∷
    at 5 (Do (Later 1)) ∷
    at 6 (Do (Then 2 1 (Some 20) None)) ∷
    at 7 (Do (Wrap 3 9 2)) ∷
    at 8 (Wait 3 3) ∷ [])

-- its log
abbrev pub cancel_is_busy_log : List ℕ
cancel_is_busy_log = lines (codes "free 1" ∷
    codes "run 2 20 value" ∷
    codes "free 2" ∷
    codes "free 3" ∷
    codes "wait 3 done throw failed 9" ∷ [])

-- the step drops the promise whose event is the next in the queue: its step 11 never runs
-- step 10 | drop 6 | value | later 1 | then 2 1 10 - | detach 2 | later 4 | then 5 4 11 - | eager 6 5 | run 3
abbrev pub dropped_while_armed : Script
dropped_while_armed = script None (
    body 10 (Drop 6 ∷ []) (Give []) ∷ []) (
    at 4 (Do (Later 1)) ∷
    at 5 (Do (Then 2 1 (Some 10) None)) ∷
    at 6 (Do (Detach 2)) ∷
    at 7 (Do (Later 4)) ∷
    at 8 (Do (Then 5 4 (Some 11) None)) ∷
    at 9 (Do (Eager 6 5)) ∷
    at 10 (RunTurns 3) ∷ [])

-- its log
abbrev pub dropped_while_armed_log : List ℕ
dropped_while_armed_log = lines (codes "free 1" ∷
    codes "run 2 10 value" ∷
    codes "free 4" ∷
    codes "free 5" ∷
    codes "free 6" ∷
    codes "free 2" ∷
    codes "free 3" ∷ [])

-- the tasks go newest first, and then the promise of emptiness is settled
-- set 1 - | pair 2 3 | add 1 2 | pair 4 5 | add 1 4 | empty 6 1 | then 7 6 10 - | detach 7 | clear 1 | turn | turn
abbrev pub cleared_set_is_empty : Script
cleared_set_is_empty = script None [] (
    at 1 (Do (NewSet 1 None)) ∷
    at 2 (Do (Pair 2 3)) ∷
    at 3 (Do (Add 1 2)) ∷
    at 4 (Do (Pair 4 5)) ∷
    at 5 (Do (Add 1 4)) ∷
    at 6 (Do (OnEmpty 6 1)) ∷
    at 7 (Do (Then 7 6 (Some 10) None)) ∷
    at 8 (Do (Detach 7)) ∷
    at 9 (Do (Clear 1)) ∷
    at 10 Turn ∷
    at 11 Turn ∷ [])

-- its log
abbrev pub cleared_set_is_empty_log : List ℕ
cleared_set_is_empty_log = lines (codes "free 3" ∷
    codes "free 4" ∷
    codes "free 1" ∷
    codes "free 2" ∷
    codes "free 5" ∷
    codes "run 6 10 value" ∷
    codes "free 6" ∷
    codes "free 7" ∷
    codes "idle" ∷ [])

-- the set was empty before its error step ran, and the step puts a new task into it
-- step 20 | later 7 | add 1 7 | value | set 1 20 | fail 2 failed 1000 | add 1 2 | empty 3 1 | then 4 3 30 - | detach 4 | run 4
abbrev pub filled_in_the_error_step : Script
filled_in_the_error_step = script None (
    body 20 (Later 7 ∷ Add 1 7 ∷ []) (Give []) ∷ []) (
    at 5 (Do (NewSet 1 (Some 20))) ∷
    at 6 (Do (Broken 2 (exception Failed 1000))) ∷
    at 7 (Do (Add 1 2)) ∷
    at 8 (Do (OnEmpty 3 1)) ∷
    at 9 (Do (Then 4 3 (Some 30) None)) ∷
    at 10 (Do (Detach 4)) ∷
    at 11 (RunTurns 4) ∷ [])

-- its log
abbrev pub filled_in_the_error_step_log : List ℕ
filled_in_the_error_step_log = lines (codes "free 1" ∷
    codes "run 2 20 throw failed 1000" ∷
    codes "free 2" ∷
    codes "free 3" ∷
    codes "run 4 30 value" ∷
    codes "free 4" ∷
    codes "free 5" ∷
    codes "free 6" ∷
    codes "free 7" ∷ [])

-- a step cancels: the tree of the wrap goes at once, and what waits for the wrap runs in the next turn
-- step 10 | cancel 9 | value | canceler 9 | pair 1 11 | wrap 2 9 1 | then 3 2 - 20 | detach 3 | later 4 | then 5 4 10 - | detach 5 | run 3
abbrev pub cancelled_in_a_turn : Script
cancelled_in_a_turn = script None (
    body 10 (Cancel 9 ∷ []) (Give []) ∷ []) (
    at 4 (Do (NewCanceler 9)) ∷
    at 5 (Do (Pair 1 11)) ∷
    at 6 (Do (Wrap 2 9 1)) ∷
    at 7 (Do (Then 3 2 None (Some 20))) ∷
    at 8 (Do (Detach 3)) ∷
    at 9 (Do (Later 4)) ∷
    at 10 (Do (Then 5 4 (Some 10) None)) ∷
    at 11 (Do (Detach 5)) ∷
    at 12 (RunTurns 3) ∷ [])

-- its log
abbrev pub cancelled_in_a_turn_log : List ℕ
cancelled_in_a_turn_log = lines (codes "free 5" ∷
    codes "run 6 10 value" ∷
    codes "free 1" ∷
    codes "free 6" ∷
    codes "free 7" ∷
    codes "free 2" ∷
    codes "run 3 20 throw failed 2" ∷
    codes "free 3" ∷
    codes "free 4" ∷ [])

-- a dropped canceler cancels, the newest wrap first; both tasks are armed depth first, in this order
-- canceler 1 | pair 2 12 | wrap 3 1 2 | then 4 3 - 30 | detach 4 | pair 5 15 | wrap 6 1 5 | then 7 6 - 31 | detach 7 | drop 1 | run 3
abbrev pub canceler_dropped : Script
canceler_dropped = script None [] (
    at 1 (Do (NewCanceler 1)) ∷
    at 2 (Do (Pair 2 12)) ∷
    at 3 (Do (Wrap 3 1 2)) ∷
    at 4 (Do (Then 4 3 None (Some 30))) ∷
    at 5 (Do (Detach 4)) ∷
    at 6 (Do (Pair 5 15)) ∷
    at 7 (Do (Wrap 6 1 5)) ∷
    at 8 (Do (Then 7 6 None (Some 31))) ∷
    at 9 (Do (Detach 7)) ∷
    at 10 (Do (Drop 1)) ∷
    at 11 (RunTurns 3) ∷ [])

-- its log
abbrev pub canceler_dropped_log : List ℕ
canceler_dropped_log = lines (codes "free 5" ∷
    codes "free 1" ∷
    codes "free 6" ∷
    codes "run 7 31 throw failed 2" ∷
    codes "free 7" ∷
    codes "free 8" ∷
    codes "free 2" ∷
    codes "run 3 30 throw failed 2" ∷
    codes "free 3" ∷
    codes "free 4" ∷ [])
