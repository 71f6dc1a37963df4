-- Scripts on waits, asks and requests.
use Rattle.std.specs.Prelude.{ℕ, List, [], ◌∷◌, codes, Some, None}
use Rattle.kj_base.specs.declared.outcomes.Kind.TheVariants.{Disconnected}
use Rattle.kj_base.specs.declared.outcomes.Outcome.TheVariants.{Value, Broken as BrokenBy}
use Rattle.kj_base.specs.declared.endings.Ending.TheVariants.{Value as Give}
use Rattle.kj_base.specs.Commands.{Later, Last, Pair, Then, Fulfil, Detach, Drop, Ask, Begin, Stop, Reply}
use Rattle.kj_model.specs.Log.{Do, Turn, RunTurns, Wait, Script}
use Rattle.kj_model.specs.Scripts.{at, body, exception, limits, lines, promised, script}

-- a step takes the name of the awaited promise: after the last turn the promise is freed
-- limits 32 4 | step 20 | later 1 | value | later 1 | then 2 1 20 - | detach 2 | last 1 | wait 1 1
abbrev pub name_taken_meanwhile : Script
name_taken_meanwhile = script (limits 32 4) (
    body 20 (Later 1 ∷ []) (Give []) ∷ []) (
    at 5 (Do (Later 1)) ∷
    at 6 (Do (Then 2 1 (Some 20) None)) ∷
    at 7 (Do (Detach 2)) ∷
    at 8 (Do (Last 1)) ∷
    at 9 (Wait 1 1) ∷ [])

-- its log
abbrev pub name_taken_meanwhile_log : List ℕ
name_taken_meanwhile_log = lines (codes "free 1" ∷
    codes "run 2 20 value" ∷
    codes "free 2" ∷
    codes "free 3" ∷
    codes "free 4" ∷
    codes "wait 1 turns" ∷
    codes "free 5" ∷ [])

-- the name of the awaited promise counts among the names: the step finds the names full
-- limits 64 2 | step 20 | later 5 | value | later 1 | then 2 1 20 - | detach 2 | pair 1 2 | wait 1 3
abbrev pub name_counts_meanwhile : Script
name_counts_meanwhile = script (limits 64 2) (
    body 20 (Later 5 ∷ []) (Give []) ∷ []) (
    at 5 (Do (Later 1)) ∷
    at 6 (Do (Then 2 1 (Some 20) None)) ∷
    at 7 (Do (Detach 2)) ∷
    at 8 (Do (Pair 1 2)) ∷
    at 9 (Wait 1 3) ∷ [])

-- its log
abbrev pub name_counts_meanwhile_log : List ℕ
name_counts_meanwhile_log = lines (codes "free 1" ∷
    codes "run 2 20 value" ∷
    codes "free 2" ∷
    codes "free 3" ∷
    codes "wait 1 idle" ∷
    codes "free 4" ∷ [])

-- a request is a leaf, a Then, a chain and the request; the first turn runs the step, the second ends the request
-- begin 1 7 5 | run 2
abbrev pub request_ends : Script
request_ends = script None [] (
    at 1 (Do (Begin 1 7 (5 ∷ []))) ∷
    at 2 (RunTurns 2) ∷ [])

-- its log
abbrev pub request_ends_log : List ℕ
request_ends_log = lines (codes "free 1" ∷
    codes "run 2 7 value 5" ∷
    codes "free 2" ∷
    codes "free 3" ∷
    codes "free 4" ∷
    codes "ended 1 value 5" ∷ [])

-- a request that is stopped ends with code 2, and its step never runs
-- begin 1 7 5 | stop 1 | turn
abbrev pub request_stopped : Script
request_stopped = script None [] (
    at 1 (Do (Begin 1 7 (5 ∷ []))) ∷
    at 2 (Do (Stop 1)) ∷
    at 3 Turn ∷ [])

-- its log
abbrev pub request_stopped_log : List ℕ
request_stopped_log = lines (codes "free 1" ∷
    codes "free 2" ∷
    codes "free 3" ∷
    codes "free 4" ∷
    codes "ended 1 throw failed 2" ∷
    codes "idle" ∷ [])

-- the promise of an ask is dropped: its cell is abandoned
-- ask 1 2 0 7 5 | then 3 1 8 - | drop 3
abbrev pub ask_abandoned : Script
ask_abandoned = script None [] (
    at 1 (Do (Ask 1 2 0 7 (5 ∷ []))) ∷
    at 2 (Do (Then 3 1 (Some 8) None)) ∷
    at 3 (Do (Drop 3)) ∷ [])

-- its log
abbrev pub ask_abandoned_log : List ℕ
ask_abandoned_log = lines (codes "ask 2 0 7 5" ∷
    codes "free 1" ∷
    codes "free 2" ∷
    codes "gone 2" ∷ [])

-- an ask gets its reply
-- ask 1 2 0 7 5 | reply 2 value 9 | wait 1 3
abbrev pub ask_replied : Script
ask_replied = script None [] (
    at 1 (Do (Ask 1 2 0 7 (5 ∷ []))) ∷
    at 2 (Do (Reply 2 (Value (9 ∷ [])))) ∷
    at 3 (Wait 1 3) ∷ [])

-- its log
abbrev pub ask_replied_log : List ℕ
ask_replied_log = lines (codes "ask 2 0 7 5" ∷
    codes "free 1" ∷
    codes "wait 1 done value 9" ∷ [])

-- the name of an abandoned cell is free once that was taken
-- limits 64 2 | ask 1 2 0 7 | drop 1 | pair 1 2
abbrev pub abandoned_name_is_free : Script
abandoned_name_is_free = script (limits 64 2) [] (
    at 2 (Do (Ask 1 2 0 7 [])) ∷
    at 3 (Do (Drop 1)) ∷
    at 4 (Do (Pair 1 2)) ∷ [])

-- its log
abbrev pub abandoned_name_is_free_log : List ℕ
abandoned_name_is_free_log = lines (codes "ask 2 0 7" ∷
    codes "free 1" ∷
    codes "gone 2" ∷
    codes "free 2" ∷ [])

-- a wait that ends early gives the promise its name back; no turn is made where none is allowed, though the promise is ready
-- pair 1 2 | wait 1 3 | fulfil 2 7 | wait 1 0 | wait 1 1
abbrev pub awaited_again : Script
awaited_again = script None [] (
    at 1 (Do (Pair 1 2)) ∷
    at 2 (Wait 1 3) ∷
    at 3 (Do (Fulfil 2 (7 ∷ []))) ∷
    at 4 (Wait 1 0) ∷
    at 5 (Wait 1 1) ∷ [])

-- its log
abbrev pub awaited_again_log : List ℕ
awaited_again_log = lines (codes "wait 1 idle" ∷
    codes "wait 1 turns" ∷
    codes "free 1" ∷
    codes "wait 1 done value 7" ∷ [])

-- the step of a request gives a promise, and the request ends when that does
-- step 7 | pair 5 6 | promise 5 | begin 1 7 9 | turn | fulfil 6 4 | run 2
abbrev pub request_of_a_promise : Script
request_of_a_promise = script None (
    body 7 (Pair 5 6 ∷ []) (promised 5) ∷ []) (
    at 4 (Do (Begin 1 7 (9 ∷ []))) ∷
    at 5 Turn ∷
    at 6 (Do (Fulfil 6 (4 ∷ []))) ∷
    at 7 (RunTurns 2) ∷ [])

-- its log
abbrev pub request_of_a_promise_log : List ℕ
request_of_a_promise_log = lines (codes "free 1" ∷
    codes "run 2 7 value 9" ∷
    codes "free 2" ∷
    codes "free 3" ∷
    codes "free 5" ∷
    codes "free 4" ∷
    codes "ended 1 value 4" ∷ [])

-- a reply takes the cell's name; so does the taking of an abandoned cell
-- ask 1 11 0 7 | ask 2 12 3 8 5 6 | reply 12 throw disconnected 3 | reply 12 value | wait 2 1 | drop 1 | drop 11
abbrev pub asks_in_order : Script
asks_in_order = script None [] (
    at 1 (Do (Ask 1 11 0 7 [])) ∷
    at 2 (Do (Ask 2 12 3 8 (5 ∷ 6 ∷ []))) ∷
    at 3 (Do (Reply 12 (BrokenBy (exception Disconnected 3)))) ∷
    at 4 (Do (Reply 12 (Value []))) ∷
    at 5 (Wait 2 1) ∷
    at 6 (Do (Drop 1)) ∷
    at 7 (Do (Drop 11)) ∷ [])

-- its log
abbrev pub asks_in_order_log : List ℕ
asks_in_order_log = lines (codes "ask 11 0 7" ∷
    codes "ask 12 3 8 5 6" ∷
    codes "refused 4 unknown 12" ∷
    codes "free 2" ∷
    codes "wait 2 done throw disconnected 3" ∷
    codes "free 1" ∷
    codes "gone 11" ∷
    codes "refused 7 unknown 11" ∷ [])

-- after the turn the ask is taken first, and then the cell, which is abandoned already
-- step 10 | ask 5 6 0 7 1 | drop 5 | value | later 1 | then 2 1 10 - | detach 2 | run 1
abbrev pub ask_dropped_in_its_step : Script
ask_dropped_in_its_step = script None (
    body 10 (Ask 5 6 0 7 (1 ∷ []) ∷ Drop 5 ∷ []) (Give []) ∷ []) (
    at 5 (Do (Later 1)) ∷
    at 6 (Do (Then 2 1 (Some 10) None)) ∷
    at 7 (Do (Detach 2)) ∷
    at 8 (RunTurns 1) ∷ [])

-- its log
abbrev pub ask_dropped_in_its_step_log : List ℕ
ask_dropped_in_its_step_log = lines (codes "free 1" ∷
    codes "run 2 10 value" ∷
    codes "free 4" ∷
    codes "free 2" ∷
    codes "free 3" ∷
    codes "ask 6 0 7 1" ∷
    codes "gone 6" ∷ [])

-- the name of a request is free once its end was taken
-- begin 1 7 | stop 1 | stop 1 | begin 1 7 | run 2
abbrev pub request_again : Script
request_again = script None [] (
    at 1 (Do (Begin 1 7 [])) ∷
    at 2 (Do (Stop 1)) ∷
    at 3 (Do (Stop 1)) ∷
    at 4 (Do (Begin 1 7 [])) ∷
    at 5 (RunTurns 2) ∷ [])

-- its log
abbrev pub request_again_log : List ℕ
request_again_log = lines (codes "free 1" ∷
    codes "free 2" ∷
    codes "free 3" ∷
    codes "free 4" ∷
    codes "ended 1 throw failed 2" ∷
    codes "refused 3 unknown 1" ∷
    codes "free 5" ∷
    codes "run 6 7 value" ∷
    codes "free 6" ∷
    codes "free 7" ∷
    codes "free 8" ∷
    codes "ended 1 value" ∷ [])
