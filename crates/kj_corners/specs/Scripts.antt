-- Scripts on corners of the definitions: each has another log under one wrong definition.
use Rattle.std.specs.Prelude.{ℕ, List, [], ◌∷◌, codes, Some, None}
use Rattle.kj_base.specs.declared.outcomes.Kind.TheVariants.{Failed}
use Rattle.kj_base.specs.declared.endings.Ending.TheVariants.{Value as Give}
use Rattle.kj_base.specs.Commands.{Now, Broken, Later, Last, Pair, Then, Eager, Fork, Branch, Race, Fast, Fulfil, NewCanceler, Wrap, Cancel, Detach, Drop, Ask, Begin}
use Rattle.kj_model.specs.Log.{Do, Turn, RunTurns, Wait, Script}
use Rattle.kj_model.specs.Scripts.{at, body, exception, lines, promised, script}

-- the join is ready at the first exception, and its listener fires; the second exception arms it no more, so the fourth turn is idle
-- fail 1 failed 1001 | fail 2 failed 1002 | fast 3 1 2 | pair 4 5 | race 6 3 4 | turn | turn | turn | turn
abbrev pub fast_is_ready_once : Script
fast_is_ready_once = script None [] (
    at 1 (Do (Broken 1 (exception Failed 1001))) ∷
    at 2 (Do (Broken 2 (exception Failed 1002))) ∷
    at 3 (Do (Fast 3 (1 ∷ 2 ∷ []))) ∷
    at 4 (Do (Pair 4 5)) ∷
    at 5 (Do (Race 6 3 4)) ∷
    at 6 Turn ∷
    at 7 Turn ∷
    at 8 Turn ∷
    at 9 Turn ∷ [])

-- its log
abbrev pub fast_is_ready_once_log : List ℕ
fast_is_ready_once_log = lines (codes "free 1" ∷
    codes "free 6" ∷
    codes "free 2" ∷
    codes "idle" ∷
    codes "free 3" ∷
    codes "free 4" ∷
    codes "free 5" ∷
    codes "free 7" ∷
    codes "free 8" ∷
    codes "free 9" ∷ [])

-- the Request evaluates a promise whose step asks, and ends in the same turn: the ask is taken first
-- step 20 | now 5 | then 6 5 21 - | promise 6 | step 21 | ask 7 8 1 2 | value | begin 1 20 | run 3
abbrev pub asks_before_ends : Script
asks_before_ends = script None (
    body 20 (Now 5 [] ∷ Then 6 5 (Some 21) None ∷ []) (promised 6) ∷
    body 21 (Ask 7 8 1 2 [] ∷ []) (Give []) ∷ []) (
    at 1 (Do (Begin 1 20 [])) ∷
    at 2 (RunTurns 3) ∷ [])

-- its log
abbrev pub asks_before_ends_log : List ℕ
asks_before_ends_log = lines (codes "free 1" ∷
    codes "run 2 20 value" ∷
    codes "free 2" ∷
    codes "free 3" ∷
    codes "free 5" ∷
    codes "run 6 21 value" ∷
    codes "free 6" ∷
    codes "free 4" ∷
    codes "ask 8 1 2" ∷
    codes "ended 1 value" ∷
    codes "free 7" ∷ [])

-- the step arms ahead of an event and drops that one, which stands at the first point: the point stays, and what is armed next stands behind what was armed first
-- step 20 | fulfil 11 | drop 5 | fulfil 13 | value | pair 10 11 | then 30 10 40 - | detach 30 | pair 12 13 | then 31 12 41 - | detach 31 | later 1 | then 2 1 20 - | detach 2 | later 3 | eager 5 3 | run 3
abbrev pub disarmed_at_the_first_point : Script
disarmed_at_the_first_point = script None (
    body 20 (Fulfil 11 [] ∷ Drop 5 ∷ Fulfil 13 [] ∷ []) (Give []) ∷ []) (
    at 1 (Do (Pair 10 11)) ∷
    at 2 (Do (Then 30 10 (Some 40) None)) ∷
    at 3 (Do (Detach 30)) ∷
    at 4 (Do (Pair 12 13)) ∷
    at 5 (Do (Then 31 12 (Some 41) None)) ∷
    at 6 (Do (Detach 31)) ∷
    at 7 (Do (Later 1)) ∷
    at 8 (Do (Then 2 1 (Some 20) None)) ∷
    at 9 (Do (Detach 2)) ∷
    at 10 (Do (Later 3)) ∷
    at 11 (Do (Eager 5 3)) ∷
    at 12 (RunTurns 3) ∷ [])

-- its log
abbrev pub disarmed_at_the_first_point_log : List ℕ
disarmed_at_the_first_point_log = lines (codes "free 7" ∷
    codes "run 8 20 value" ∷
    codes "free 10" ∷
    codes "free 11" ∷
    codes "free 8" ∷
    codes "free 9" ∷
    codes "free 1" ∷
    codes "run 2 40 value" ∷
    codes "free 2" ∷
    codes "free 3" ∷
    codes "free 4" ∷
    codes "run 5 41 value" ∷
    codes "free 5" ∷
    codes "free 6" ∷ [])

-- an event that was armed last stands at the second point; it leaves, and the point stays, so what is armed next stands behind the other
-- last 1 | eager 2 1 | later 3 | then 4 3 20 - | detach 4 | drop 2 | later 5 | then 6 5 21 - | detach 6 | run 2
abbrev pub disarmed_at_the_second_point : Script
disarmed_at_the_second_point = script None [] (
    at 1 (Do (Last 1)) ∷
    at 2 (Do (Eager 2 1)) ∷
    at 3 (Do (Later 3)) ∷
    at 4 (Do (Then 4 3 (Some 20) None)) ∷
    at 5 (Do (Detach 4)) ∷
    at 6 (Do (Drop 2)) ∷
    at 7 (Do (Later 5)) ∷
    at 8 (Do (Then 6 5 (Some 21) None)) ∷
    at 9 (Do (Detach 6)) ∷
    at 10 (RunTurns 2) ∷ [])

-- its log
abbrev pub disarmed_at_the_second_point_log : List ℕ
disarmed_at_the_second_point_log = lines (codes "free 1" ∷
    codes "free 2" ∷
    codes "free 3" ∷
    codes "run 4 20 value" ∷
    codes "free 4" ∷
    codes "free 5" ∷
    codes "free 6" ∷
    codes "run 7 21 value" ∷
    codes "free 7" ∷
    codes "free 8" ∷ [])

-- the step runs under the Wrap whose event fires: the drop of its canceler is refused, and its outcome is that of a refused command
-- step 20 | drop 9 | value | canceler 9 | later 1 | then 2 1 20 - | wrap 3 9 2 | then 4 3 - 21 | detach 4 | run 2
abbrev pub wrap_that_fires_keeps_its_canceler : Script
wrap_that_fires_keeps_its_canceler = script None (
    body 20 (Drop 9 ∷ []) (Give []) ∷ []) (
    at 1 (Do (NewCanceler 9)) ∷
    at 2 (Do (Later 1)) ∷
    at 3 (Do (Then 2 1 (Some 20) None)) ∷
    at 4 (Do (Wrap 3 9 2)) ∷
    at 5 (Do (Then 4 3 None (Some 21))) ∷
    at 6 (Do (Detach 4)) ∷
    at 7 (RunTurns 2) ∷ [])

-- its log
abbrev pub wrap_that_fires_keeps_its_canceler_log : List ℕ
wrap_that_fires_keeps_its_canceler_log = lines (codes "free 1" ∷
    codes "run 2 20 value" ∷
    codes "free 2" ∷
    codes "free 3" ∷
    codes "run 4 21 throw failed 9" ∷
    codes "free 4" ∷
    codes "free 5" ∷ [])

-- the tasks over the branches fire before the one that waited already, in the order of making
-- later 1 | fork 2 1 | branch 3 2 | then 4 3 20 - | detach 4 | branch 5 2 | then 6 5 21 - | detach 6 | later 7 | then 8 7 22 - | detach 8 | run 4
abbrev pub hub_arms_its_branches_first : Script
hub_arms_its_branches_first = script None [] (
    at 1 (Do (Later 1)) ∷
    at 2 (Do (Fork 2 1)) ∷
    at 3 (Do (Branch 3 2)) ∷
    at 4 (Do (Then 4 3 (Some 20) None)) ∷
    at 5 (Do (Detach 4)) ∷
    at 6 (Do (Branch 5 2)) ∷
    at 7 (Do (Then 6 5 (Some 21) None)) ∷
    at 8 (Do (Detach 6)) ∷
    at 9 (Do (Later 7)) ∷
    at 10 (Do (Then 8 7 (Some 22) None)) ∷
    at 11 (Do (Detach 8)) ∷
    at 12 (RunTurns 4) ∷ [])

-- its log
abbrev pub hub_arms_its_branches_first_log : List ℕ
hub_arms_its_branches_first_log = lines (codes "free 1" ∷
    codes "free 3" ∷
    codes "run 4 20 value" ∷
    codes "free 4" ∷
    codes "free 5" ∷
    codes "free 6" ∷
    codes "run 7 21 value" ∷
    codes "free 7" ∷
    codes "free 8" ∷
    codes "free 9" ∷
    codes "run 10 22 value" ∷
    codes "free 10" ∷
    codes "free 11" ∷
    codes "free 2" ∷ [])

-- the newest Wrap is settled first, so its task fires first
-- canceler 9 | pair 1 2 | wrap 3 9 1 | then 4 3 - 20 | detach 4 | pair 5 6 | wrap 7 9 5 | then 8 7 - 21 | detach 8 | cancel 9 | run 2
abbrev pub newest_wrap_goes_first : Script
newest_wrap_goes_first = script None [] (
    at 1 (Do (NewCanceler 9)) ∷
    at 2 (Do (Pair 1 2)) ∷
    at 3 (Do (Wrap 3 9 1)) ∷
    at 4 (Do (Then 4 3 None (Some 20))) ∷
    at 5 (Do (Detach 4)) ∷
    at 6 (Do (Pair 5 6)) ∷
    at 7 (Do (Wrap 7 9 5)) ∷
    at 8 (Do (Then 8 7 None (Some 21))) ∷
    at 9 (Do (Detach 8)) ∷
    at 10 (Do (Cancel 9)) ∷
    at 11 (RunTurns 2) ∷ [])

-- its log
abbrev pub newest_wrap_goes_first_log : List ℕ
newest_wrap_goes_first_log = lines (codes "free 5" ∷
    codes "free 1" ∷
    codes "free 6" ∷
    codes "run 7 21 throw failed 2" ∷
    codes "free 7" ∷
    codes "free 8" ∷
    codes "free 2" ∷
    codes "run 3 20 throw failed 2" ∷
    codes "free 3" ∷
    codes "free 4" ∷ [])

-- the step that the wait evaluates arms an event at the first point; no rewind follows, so what is armed after the wait stands behind it
-- step 20 | fulfil 11 | value | pair 10 11 | then 30 10 40 - | detach 30 | pair 12 13 | then 31 12 41 - | detach 31 | later 1 | then 2 1 20 - | wait 2 1 | fulfil 13 | run 2
abbrev pub no_rewind_after_a_value : Script
no_rewind_after_a_value = script None (
    body 20 (Fulfil 11 [] ∷ []) (Give []) ∷ []) (
    at 1 (Do (Pair 10 11)) ∷
    at 2 (Do (Then 30 10 (Some 40) None)) ∷
    at 3 (Do (Detach 30)) ∷
    at 4 (Do (Pair 12 13)) ∷
    at 5 (Do (Then 31 12 (Some 41) None)) ∷
    at 6 (Do (Detach 31)) ∷
    at 7 (Do (Later 1)) ∷
    at 8 (Do (Then 2 1 (Some 20) None)) ∷
    at 9 (Wait 2 1) ∷
    at 10 (Do (Fulfil 13 [])) ∷
    at 11 (RunTurns 2) ∷ [])

-- its log
abbrev pub no_rewind_after_a_value_log : List ℕ
no_rewind_after_a_value_log = lines (codes "free 7" ∷
    codes "run 8 20 value" ∷
    codes "free 8" ∷
    codes "wait 2 done value" ∷
    codes "free 1" ∷
    codes "run 2 40 value" ∷
    codes "free 2" ∷
    codes "free 3" ∷
    codes "free 4" ∷
    codes "run 5 41 value" ∷
    codes "free 5" ∷
    codes "free 6" ∷ [])

-- the branch is the last reference of a hub that holds what fires: its drop is refused, and hub and branch stay until the closing
-- step 20 | drop 5 | value | later 1 | then 2 1 20 - | eager 3 2 | fork 4 3 | branch 5 4 | drop 4 | turn
abbrev pub busy_over_a_hub_that_holds_it : Script
busy_over_a_hub_that_holds_it = script None (
    body 20 (Drop 5 ∷ []) (Give []) ∷ []) (
    at 1 (Do (Later 1)) ∷
    at 2 (Do (Then 2 1 (Some 20) None)) ∷
    at 3 (Do (Eager 3 2)) ∷
    at 4 (Do (Fork 4 3)) ∷
    at 5 (Do (Branch 5 4)) ∷
    at 6 (Do (Drop 4)) ∷
    at 7 Turn ∷ [])

-- its log
abbrev pub busy_over_a_hub_that_holds_it_log : List ℕ
busy_over_a_hub_that_holds_it_log = lines (codes "free 1" ∷
    codes "run 2 20 value" ∷
    codes "free 2" ∷
    codes "free 3" ∷
    codes "free 4" ∷
    codes "free 5" ∷ [])

-- no turn is left, which is told before that the queue is empty
-- pair 1 2 | wait 1 0
abbrev pub turns_before_idle : Script
turns_before_idle = script None [] (
    at 1 (Do (Pair 1 2)) ∷
    at 2 (Wait 1 0) ∷ [])

-- its log
abbrev pub turns_before_idle_log : List ℕ
turns_before_idle_log = lines (codes "wait 1 turns" ∷
    codes "free 1" ∷ [])
